-- Operands: a name, a comma and an index.
use Rattle.std.proofs.Common.{◌≡◌, ℕ, ◌+◌, ◌<◌, ◌≤◌, List, [], length, Some, None, drop, take, ap, sym, ◌∙◌, arith, inl, inr}
use Rattle.std.specs.Prelude.{position, ◌⊎◌, ◌-◌}
use Rattle.std.specs.List.{position_or_len}
use Rattle.std.proofs.lemmas.Bool.{cases_lt}
use Rattle.std.proofs.lemmas.Grind.{common_steps}
use Rattle.std.proofs.lemmas.List.{drop_all, length-drop, take_all}
use Rattle.rpg_fit_terms.specs.Names.{index_in, ends_name, name_in}

place_of : (text : List ℕ) (i : ℕ) → position ends_name text ≡ Some i → position_or_len ends_name text ≡ i
place_of text i h = by (cases_lt (position_or_len ends_name text) (length text))
  where
    by : (position_or_len ends_name text < length text) ⊎ (length text ≤ position_or_len ends_name text) → position_or_len ends_name text ≡ i
    by (inl lt) = let e : position ends_name text ≡ Some (position_or_len ends_name text) = grind (arith, common_steps) in cc
    by (inr le) = let e : position ends_name text ≡ None = grind (arith, common_steps) in absurd cc

no_place : (text : List ℕ) → position ends_name text ≡ None → length text ≤ position_or_len ends_name text
no_place text h = by (cases_lt (position_or_len ends_name text) (length text))
  where
    by : (position_or_len ends_name text < length text) ⊎ (length text ≤ position_or_len ends_name text) → length text ≤ position_or_len ends_name text
    by (inl lt) = let e : position ends_name text ≡ Some (position_or_len ends_name text) = grind (arith, common_steps) in absurd cc
    by (inr le) = le

pub name_before : (text : List ℕ) (i : ℕ) → position ends_name text ≡ Some i → take i text ≡ name_in text
name_before text i h = ap (λ (k : ℕ). take k text) (sym (place_of text i h))

pub index_after : (text : List ℕ) (i : ℕ) → position ends_name text ≡ Some i → take (length text - (i + 1)) (drop (i + 1) text) ≡ index_in text
index_after text i h =
    take_all (length text - (i + 1)) (drop (i + 1) text) (omega (arith, length-drop (i + 1) text))
    ∙ ap (λ (k : ℕ). drop (k + 1) text) (sym (place_of text i h))

pub name_whole : (text : List ℕ) → position ends_name text ≡ None → text ≡ name_in text
name_whole text h = sym (take_all (position_or_len ends_name text) text (no_place text h))

pub index_missing : (text : List ℕ) → position ends_name text ≡ None → [] ≡ index_in text
index_missing text h = sym (drop_all (position_or_len ends_name text + 1) text (omega (arith, no_place text h)))
