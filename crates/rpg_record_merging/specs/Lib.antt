-- Lines of several files as those of one.
pub mod Order
