-- What code_holds of each file.
use Rattle.std.proofs.Common.{◌≡◌, ℕ, Bool, true, false, cond, not, ◌&&◌, ◌||◌, List, [], ◌∷◌, Option, None, Some, is_none, refl, ap, ◌∙◌}
use Rattle.rpg_program.specs.declared.input.InputFile.{InputFile}
use Rattle.rpg_program.specs.declared.input.InputFile.TheVariants.{Primary, Secondary}
use Rattle.rpg_program.specs.Object.{Object, has_file}
use Rattle.rpg_cycle_records.proofs.Order.{not_above, not_self}
use Rattle.rpg_cycle_records.specs.Earlier.{Selected, file_at, match_value, or_before, value_from}
use Rattle.rpg_cycle_records.specs.Identifying.{same_file}
use Rattle.rpg_cycle_records.specs.Matching.{exceeds, is_greater}
use Rattle.rpg_cycle_records.specs.Merging.{IsFileOrderly, AreMergedInOrder, IsTopIfAny, IsTopOf, IsUpTo, is_spent}
use Rattle.rpg_cycle_records.specs.Waiting.{InputState, Inputs, input_at, other_file, takes_in, waiting_in, with_input}

pub file_orderly : (p : Object) (earlier : List Selected) (i : Inputs) → AreMergedInOrder p earlier i → (f : InputFile) → IsFileOrderly p earlier f (input_at i f)
file_orderly p earlier i h Primary = h.primary
file_orderly p earlier i h Secondary = h.secondary

pub with_orderly : (p : Object) (earlier : List Selected) (i : Inputs) → AreMergedInOrder p earlier i → (f : InputFile) (x : InputState) → IsFileOrderly p earlier f x → AreMergedInOrder p earlier (with_input f x i)
with_orderly p earlier i h Primary x g = record { merged = h.merged; primary = g; secondary = h.secondary }
with_orderly p earlier i h Secondary x g = record { merged = h.merged; primary = h.primary; secondary = g }

-- ---- values of a file

pub same_self : (f : InputFile) → same_file f f ≡ true
same_self Primary = refl
same_self Secondary = refl

pub not_other : (f : InputFile) → same_file f (other_file f) ≡ false
not_other Primary = refl
not_other Secondary = refl

pub value_own : (p : Object) (f : InputFile) (s : Selected) → file_at p s ≡ f → value_from p f s ≡ match_value p s
value_own p f s e = ap (λ g. cond (same_file g f) (match_value p s) None) e ∙ ap (λ b. cond b (match_value p s) None) (same_self f)

pub value_other : (p : Object) (f : InputFile) (s : Selected) → file_at p s ≡ f → value_from p (other_file f) s ≡ None
value_other p f s e = ap (λ g. cond (same_file g (other_file f)) (match_value p s) None) e ∙ ap (λ b. cond b (match_value p s) None) (not_other f)

-- ---- what is on top

pub none_up : (v : Option (List ℕ)) → IsUpTo v None
none_up None = refl
none_up (Some v) = refl

pub or_up : (l m : Option (List ℕ)) → IsUpTo (or_before l m) m
or_up l None = none_up l
or_up l (Some v) = not_self v

raise : (m : Option (List ℕ)) (l v : List ℕ) → is_greater l v ≡ false → exceeds m (Some l) ≡ false → exceeds m (Some v) ≡ false
raise None l v g h = refl
raise (Some x) l v g h = not_above x l v h g

higher : (l : Option (List ℕ)) (v : List ℕ) (m : Option (List ℕ)) → exceeds l (Some v) ≡ false → IsUpTo l m → IsUpTo (Some v) m
higher None v m g h = ap (λ o. exceeds o (Some v)) h
higher (Some l) v m g h = raise m l v g h

-- a value that isn't lower than what is on top is on top as well
pub top_up : (p : Object) (l : Option (List ℕ)) (v : List ℕ) (ss : List Selected) → exceeds l (Some v) ≡ false → IsTopOf p l ss → IsTopOf p (Some v) ss
top_up p l v [] g h = h
top_up p l v (s ∷ ss) g h = (higher l v (match_value p s) g h.0, top_up p l v ss g h.1)

pub top_any : (p : Object) (m l : Option (List ℕ)) (ss : List Selected) → IsTopOf p (or_before l m) ss → IsTopIfAny p m ss
top_any p None l ss h = tt
top_any p (Some v) l ss h = h

-- ---- files that take nothing in

or_true : (b : Bool) → (b || true) ≡ true
or_true true = refl
or_true false = refl

pub over_spent : (p : Object) (f : InputFile) → is_spent p f (record { waiting = None; is_over = true }) ≡ true
over_spent p f = or_true (not (has_file p f))

spent : (there ended none : Bool) → (there && (not ended && none)) ≡ false → none ≡ true → (none && (not there || ended)) ≡ true
spent true true none h e = rw e refl
spent true false true h e = cc
spent true false false h e = cc
spent false ended none h e = rw e refl

pub settled_spent : (p : Object) (i : Inputs) (f : InputFile) → takes_in p i f ≡ false → waiting_in i f ≡ None → is_spent p f (input_at i f) ≡ true
settled_spent p i f h e = spent (has_file p f) (input_at i f).is_over (is_none (waiting_in i f)) h (ap is_none e)

unspent : (there ended none : Bool) → (there && (not ended && none)) ≡ true → (none && (not there || ended)) ≡ false
unspent true true none h = cc
unspent true false none h = rw h refl
unspent false ended none h = cc

pub taking_unspent : (p : Object) (i : Inputs) (f : InputFile) → takes_in p i f ≡ true → is_spent p f (input_at i f) ≡ false
taking_unspent p i f h = unspent (has_file p f) (input_at i f).is_over (is_none (waiting_in i f)) h

no_one : (there ended : Bool) (w : Option Selected) → (there && (not ended && is_none w)) ≡ true → w ≡ None
no_one true true w h = cc
no_one true false None h = refl
no_one true false (Some s) h = cc
no_one false ended w h = cc

pub taking_none : (p : Object) (i : Inputs) (f : InputFile) → takes_in p i f ≡ true → waiting_in i f ≡ None
taking_none p i f h = no_one (has_file p f) (input_at i f).is_over (waiting_in i f) h
