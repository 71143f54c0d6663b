-- Each world of a program has a world by names and constants that agrees with it.
use Rattle.std.proofs.Common.{◌≡◌, ℕ, zero, suc, Bool, true, false, cond, ◌&&◌, eqb, Option, None, Some, refl, sym, ap, ◌∙◌, arith, slice_get, eqb-true}
use Rattle.std.proofs.lemmas.Bool.{eq-eqb, false≢true}
use Rattle.std.proofs.lemmas.Option.{same_Some}
use Rattle.std.specs.Ordering.{nat_cmp}
use Rattle.rpg_program.specs.Forms.{has_field}
use Rattle.rpg_program.specs.World.{World}
use Rattle.rpg_program.proofs.Renaming.Worlds.{by_names, names_agree}
use Rattle.rpg_program.specs.Naming.{Agree}
use Rattle.rpg_compile_program.proofs.Numbers.{Missing, Standing, There, all_keys, numbers_rename, standing}
use Rattle.rpg_cards.specs.Keys.{Key, key_cmp}
use Rattle.rpg_compile_program.specs.Table.{Table, key_form, key_number}

abbrev kept : Table → ℕ → Option Key → Option Key
kept t n None = None
kept t n (Some k) = cond (eqb (key_number t k) n && has_field (key_form t k)) (Some k) None

-- the key of a number
abbrev key_of : Table → ℕ → Option Key
key_of t zero = None
key_of t (suc n) = kept t (suc n) (slice_get (all_keys t) n)

knows : (t : Table) (k : Key) → has_field (key_form t k) ≡ true → key_of t (key_number t k) ≡ Some k
knows t k there = by_standing (standing t k)
  where
    by_standing : Standing t k → key_of t (key_number t k) ≡ Some k
    by_standing (Missing n f) = absurd (false≢true (sym (ap has_field f) ∙ there))
    by_standing (There s) =
        let number = s.number in
        let e : key_number t k ≡ suc s.place = omega arith in
        ap (key_of t) e ∙ ap (kept t (suc s.place)) s.key
        ∙ (λ i. cond (eq-eqb (key_number t k) (suc s.place) e i && there i) (Some k) None)

gives : (t : Table) (n : ℕ) (k : Key) → key_of t n ≡ Some k → (key_number t k ≡ n) × (has_field (key_form t k) ≡ true)
gives t zero k e = cc
gives t (suc n) k e = by_key (slice_get (all_keys t) n) e
  where
    by_tests : (j : Key) (a b : Bool) → eqb (key_number t j) (suc n) ≡ a → has_field (key_form t j) ≡ b → cond (a && b) (Some j) None ≡ Some k → (key_number t k ≡ suc n) × (has_field (key_form t k) ≡ true)
    by_tests j true true f g h = let same = same_Some j k h in (ap (key_number t) (sym same) ∙ eqb-true (key_number t j) (suc n) f, ap (λ x. has_field (key_form t x)) (sym same) ∙ g)
    by_tests j true false f g h = cc
    by_tests j false b f g h = cc

    by_key : (o : Option Key) → kept t (suc n) o ≡ Some k → (key_number t k ≡ suc n) × (has_field (key_form t k) ≡ true)
    by_key None h = cc
    by_key (Some j) h = by_tests j (eqb (key_number t j) (suc n)) (has_field (key_form t j)) refl refl h

pub named_world : (t : Table) (w : World nat_cmp) → (v : World key_cmp) × Agree (key_form t) (key_number t) v w
named_world t w = (by_names (numbers_rename t) (key_of t) (knows t) (gives t) w, names_agree (numbers_rename t) (key_of t) (knows t) (gives t) w)
