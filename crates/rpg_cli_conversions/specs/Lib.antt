-- What `rpg2 records` writes.
pub mod Laws
