-- A match is found by the last values alone.
use Rattle.std.proofs.Common.{◌≡◌, ℕ, Bool, true, false, cond, ◌||◌, List, [], ◌∷◌, Option, None, Some, refl, sym, ap, ◌∙◌, subst}
use Rattle.rpg_program.specs.declared.input.InputFile.{InputFile}
use Rattle.rpg_program.specs.declared.input.InputFile.TheVariants.{Primary, Secondary}
use Rattle.rpg_program.specs.Object.{Object}
use Rattle.rpg_cycle_records.proofs.Order.{same_top}
use Rattle.rpg_cycle_records.specs.Earlier.{Selected, any_agrees, file_at, last_of_file, last_value, left_by, match_value, or_before, value_from}
use Rattle.rpg_cycle_records.specs.Identifying.{same_file}
use Rattle.rpg_cycle_records.specs.Matching.{agrees, exceeds, neither_is_greater}
use Rattle.rpg_cycle_records.specs.Merging.{IsMerged, IsTopIfAny, IsTopOf}
use Rattle.rpg_cycle_records.specs.Waiting.{Inputs, finds_match, has_match, other_file, waiting_in}

-- a value from a file is the record's
kept_value : (b : Bool) (m : Option (List ℕ)) (y : List ℕ) → cond b m None ≡ Some y → m ≡ Some y
kept_value true m y h = h
kept_value false m y h = cc

pub own_value : (p : Object) (f : InputFile) (s : Selected) (y : List ℕ) → value_from p f s ≡ Some y → match_value p s ≡ Some y
own_value p f s y h = kept_value (same_file (file_at p s) f) (match_value p s) y h

-- ---- the last value is below what is on top

pub last_below : (p : Object) (f : InputFile) (v : List ℕ) (ss : List Selected) → IsTopOf p (Some v) ss → exceeds (last_value p f ss) (Some v) ≡ false
last_below p f v [] h = refl
last_below p f v (s ∷ ss) h = go (last_below p f v ss h.1) (value_from p f s) refl
  where
    go : exceeds (last_value p f ss) (Some v) ≡ false → (o : Option (List ℕ)) → value_from p f s ≡ o → exceeds (or_before (last_value p f ss) (value_from p f s)) (Some v) ≡ false
    go ih None e = rw e ih
    go ih (Some y) e = rw e (ap (λ m. exceeds m (Some v)) (sym (own_value p f s y e)) ∙ h.0)

-- ---- no value, no match

pub never : (p : Object) (f : InputFile) (ss : List Selected) → any_agrees p f None ss ≡ false
never p f [] = refl
never p f (s ∷ ss) = never p f ss

-- ---- the last value is enough

absorbed : (b c : Bool) → (c ≡ true → b ≡ true) → (b || c) ≡ b
absorbed true c h = refl
absorbed false false h = refl
absorbed false true h = sym (h refl)

pub by_last : (p : Object) (f : InputFile) (x : List ℕ) (ss : List Selected) → IsMerged p ss → IsTopOf p (Some x) ss →
    any_agrees p f (Some x) ss ≡ agrees (Some x) (last_value p f ss)
by_last p f x [] m h = refl
by_last p f x (s ∷ ss) m h = go (by_last p f x ss m.1 h.1) (value_from p f s) refl
  where
    with_last : (y : List ℕ) → match_value p s ≡ Some y → (l : Option (List ℕ)) → last_value p f ss ≡ l → (neither_is_greater x y || agrees (Some x) l) ≡ neither_is_greater x y
    with_last y own None e = absorbed (neither_is_greater x y) false (λ k. cc)
    with_last y own (Some z) e =
        absorbed (neither_is_greater x y) (neither_is_greater x z) (λ k. same_top x y z
        (ap (λ o. exceeds o (Some y)) (sym e) ∙ last_below p f y ss (subst (λ o. IsTopIfAny p o ss) own m.0))
        (ap (λ o. exceeds o (Some x)) (sym own) ∙ h.0) k)

    go : any_agrees p f (Some x) ss ≡ agrees (Some x) (last_value p f ss) → (o : Option (List ℕ)) → value_from p f s ≡ o →
        (agrees (Some x) (value_from p f s) || any_agrees p f (Some x) ss) ≡ agrees (Some x) (or_before (last_value p f ss) (value_from p f s))
    go ih None e = rw e ih
    go ih (Some y) e = rw e (ap (λ b. neither_is_greater x y || b) ih ∙ with_last y (own_value p f s y e) (last_value p f ss) refl)

last_kept : (p : Object) (earlier : List Selected) (f : InputFile) → last_of_file (left_by p earlier) f ≡ last_value p f earlier
last_kept p earlier Primary = refl
last_kept p earlier Secondary = refl

by_left : (p : Object) (earlier : List Selected) (f : InputFile) (v : Option (List ℕ)) → IsMerged p earlier → IsTopIfAny p v earlier →
    any_agrees p f v earlier ≡ agrees v (last_of_file (left_by p earlier) f)
by_left p earlier f None m h = never p f earlier
by_left p earlier f (Some x) m h = by_last p f x earlier m h ∙ ap (agrees (Some x)) (sym (last_kept p earlier f))

agrees_none : (v : Option (List ℕ)) → agrees v None ≡ false
agrees_none None = refl
agrees_none (Some x) = refl

-- What a job keeps is enough: the test by the last values is the test over all records that were taken in.
pub found : (p : Object) (earlier : List Selected) (i : Inputs) (s : Selected) → IsMerged p earlier → IsTopIfAny p (match_value p s) earlier →
    has_match p earlier i s ≡ finds_match p (left_by p earlier) i s
found p earlier i s m h = go (waiting_in i (other_file (file_at p s))) refl
  where
    rest : any_agrees p (other_file (file_at p s)) (match_value p s) earlier ≡ agrees (match_value p s) (last_of_file (left_by p earlier) (other_file (file_at p s)))
    rest = by_left p earlier (other_file (file_at p s)) (match_value p s) m h

    go : (w : Option Selected) → waiting_in i (other_file (file_at p s)) ≡ w → has_match p earlier i s ≡ finds_match p (left_by p earlier) i s
    go None e = rw e (rw (agrees_none (match_value p s)) rest)
    go (Some t) e = rw e (ap (λ b. agrees (match_value p s) (value_from p (other_file (file_at p s)) t) || b) rest)
