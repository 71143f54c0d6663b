-- The laws of how rows are made of formats.
use Rattle.std.proofs.Common.{◌≡◌, ℕ, ◌≤◌, Bool, true, false, List, [], ◌++◌, length, Result, Ok, Err, refl, sym, ap, subst, inl, inr}
use Rattle.rpg_object_format.specs.declared.fault.Code.TheVariants.{CutShort, Unused}
use Rattle.rpg_object_format.specs.declared.fault.Fault.{Fault}
use Rattle.rpg_object_format.specs.Format.{Format, ◌>>=◌, made, pair, table, times_with}
use Rattle.rpg_object_format.specs.Numbers.{count, is_any_number}
use Rattle.rpg_object_format.proofs.Laws.{IsBytes, IsFormat, Takes, bind_err, bind_ok, further, ok_is, pair_law, row_law, table_law}
use Rattle.rpg_object_format.proofs.Rules.{byte_where_law, count_law, only_byte_law, only_number_law}
use Rattle.rpg_object_format.specs.Shapes.{any_byte, always, counted_rows, no_number, row_where, unused_byte, unused_number, where_used}

pub any_byte_law : IsFormat any_byte
any_byte_law = byte_where_law is_any_number

pub unused_byte_law : IsFormat unused_byte
unused_byte_law = only_byte_law 0 Unused

pub unused_number_law : IsFormat unused_number
unused_number_law = only_number_law 0 Unused

pub no_number_law : IsFormat no_number
unfolding no_number
no_number_law = record { takes = takes; again = again; within = within; stays = stays; fails_alike = fails_alike }
  where
    nothing : List ℕ → Unit {0} × List ℕ
    nothing bytes = (tt, bytes)

    read : List ℕ → Result (Unit {0} × List ℕ) Fault
    read bytes = Ok (nothing bytes)

    takes : (bytes : List ℕ) (x : Unit {0}) (rest : List ℕ) → IsBytes bytes → read bytes ≡ Ok (x, rest) → Takes bytes [] rest × Unit {0}
    takes bytes x rest fits e =
        let same : bytes ≡ rest = ap (λ (y : Unit {0} × List ℕ). y.1) (ok_is (nothing bytes) (x, rest) e) in
        (record { parts = same; rest_fits = subst IsBytes same fits }, tt)

    again : (x : Unit {0}) (rest : List ℕ) → Unit {0} → read rest ≡ Ok (x, rest)
    again x rest h = refl

    within : (bytes : List ℕ) (d : Fault) → IsBytes bytes → read bytes ≡ Err d → d.left ≤ length bytes
    within bytes d fits e = absurd cc

    stays : (bytes more : List ℕ) (x : Unit {0}) (rest : List ℕ) → read bytes ≡ Ok (x, rest) → read (bytes ++ more) ≡ Ok (x, rest ++ more)
    stays bytes more x rest e = ap (λ (y : List ℕ). read (y ++ more)) (ap (λ (y : Unit {0} × List ℕ). y.1) (ok_is (nothing bytes) (x, rest) e))

    fails_alike : (bytes more : List ℕ) (d : Fault) → read bytes ≡ Err d → (d.code ≡ CutShort → ⊥) → read (bytes ++ more) ≡ Err (further (length more) d)
    fails_alike bytes more d e not_end = absurd cc

-- what is read is so; what is so is read again
pub row_where_law : {A X : Type 0} (Is : X → Type 0) (make : A → X) (parts : X → A) (f : Format A) → ((a : A) → f.Holds a → parts (make a) ≡ a) → ((a : A) → f.Holds a → Is (make a)) → ((x : X) → Is x → make (parts x) ≡ x) → IsFormat f → IsFormat (row_where Is make parts f)
unfolding row_where
row_where_law {A} {X} Is make parts f there right back p = record { takes = takes; again = again; within = within; stays = stays; fails_alike = fails_alike }
  where
    takes : (bytes : List ℕ) (x : X) (rest : List ℕ) → IsBytes bytes → (f.reading bytes >>= made make) ≡ Ok (x, rest) → Takes bytes (f.spelling (parts x)) rest × (Is x × f.Holds (parts x))
    takes bytes x rest fits e =
        let a = bind_ok (f.reading bytes) (made make) (x, rest) e in
        let t = p.takes bytes a.0.0 a.0.1 fits a.1 in
        let x_made : X × List ℕ = (make a.0.0, a.0.1) in
        let kept = subst (λ (w : A). Takes bytes (f.spelling w) a.0.1 × f.Holds w) (sym (there a.0.0 t.1)) t in
        let all : Takes bytes (f.spelling (parts (make a.0.0))) a.0.1 × (Is (make a.0.0) × f.Holds (parts (make a.0.0))) = (kept.0, (right a.0.0 t.1, kept.1)) in
        subst (λ (y : X × List ℕ). Takes bytes (f.spelling (parts y.0)) y.1 × (Is y.0 × f.Holds (parts y.0))) (ok_is x_made (x, rest) a.2) all

    again : (x : X) (rest : List ℕ) → Is x × f.Holds (parts x) → (f.reading (f.spelling (parts x) ++ rest) >>= made make) ≡ Ok (x, rest)
    again x rest h = rw (p.again (parts x) rest h.1) (ap (λ (y : X). Ok (y, rest)) (back x h.0))

    within : (bytes : List ℕ) (d : Fault) → IsBytes bytes → (f.reading bytes >>= made make) ≡ Err d → d.left ≤ length bytes
    within bytes d fits e =
        elim (bind_err (f.reading bytes) (made make) d e) [
          | inl bad ↦ p.within bytes d fits bad
          | inr a ↦ absurd (let k = a.2 in cc)
        ]

    stays : (bytes more : List ℕ) (x : X) (rest : List ℕ) → (f.reading bytes >>= made make) ≡ Ok (x, rest) → (f.reading (bytes ++ more) >>= made make) ≡ Ok (x, rest ++ more)
    stays bytes more x rest e =
        let a = bind_ok (f.reading bytes) (made make) (x, rest) e in
        let x_made : X × List ℕ = (make a.0.0, a.0.1) in
        rw (p.stays bytes more a.0.0 a.0.1 a.1) (ap (λ (y : X × List ℕ). Ok (y.0, y.1 ++ more)) (ok_is x_made (x, rest) a.2))

    fails_alike : (bytes more : List ℕ) (d : Fault) → (f.reading bytes >>= made make) ≡ Err d → (d.code ≡ CutShort → ⊥) → (f.reading (bytes ++ more) >>= made make) ≡ Err (further (length more) d)
    fails_alike bytes more d e not_end =
        elim (bind_err (f.reading bytes) (made make) d e) [
          | inl bad ↦ rw (p.fails_alike bytes more d bad not_end) refl
          | inr a ↦ absurd (let k = a.2 in cc)
        ]

pub always_law : {X : Type 0} (x : X) (numbers : Format (Unit {0})) → IsFormat numbers → IsFormat (always x numbers)
always_law {X} x numbers p = row_where_law (λ y. y ≡ x) (λ u. x) (λ y. tt) numbers (λ a h. refl) (λ a h. refl) (λ y e. sym e) p

pub where_used_law : {X : Type 0} (is_used : Bool) (f : Format X) (nothing : X) (zeros : Format (Unit {0})) → IsFormat f → IsFormat zeros → IsFormat (where_used is_used f nothing zeros)
where_used_law true f nothing zeros p q = p
where_used_law false f nothing zeros p q = always_law nothing zeros q

-- the value where it is used, else the one that stands for nothing
abbrev pub if_used : {X : Type 0} → Bool → X → X → X
if_used true x nothing = x
if_used false x nothing = nothing

-- what isn't used is nothing
pub cleared : {X : Type 0} (is_used : Bool) (f : Format X) (nothing : X) (zeros : Format (Unit {0})) (x : X) → (where_used is_used f nothing zeros).Holds x → if_used is_used x nothing ≡ x
unfolding row_where
cleared true f nothing zeros x h = refl
cleared false f nothing zeros x h = sym h.0

-- what isn't used is the value for it
pub unused_is : {X : Type 0} (is_used : Bool) (f : Format X) (nothing : X) (zeros : Format (Unit {0})) (x : X) → (where_used is_used f nothing zeros).Holds x → is_used ≡ false → x ≡ nothing
unfolding row_where
unused_is true f nothing zeros x h e = absurd cc
unused_is false f nothing zeros x h e = h.0

-- what holds of each value that the format holds and of the value for an unused one
pub either_keeps : {X : Type 0} (P : X → Type 0) (is_used : Bool) (f : Format X) (nothing : X) (zeros : Format (Unit {0})) → ((x : X) → f.Holds x → P x) → P nothing → (x : X) → (where_used is_used f nothing zeros).Holds x → P x
unfolding row_where
either_keeps P true f nothing zeros each none x h = each x h
either_keeps P false f nothing zeros each none x h = subst P (sym h.0) none

pub either_holds : {X : Type 0} (is_used : Bool) (f : Format X) (nothing : X) (zeros : Format (Unit {0})) (x : X) → f.Holds x → zeros.Holds tt → (is_used ≡ false → x ≡ nothing) → (where_used is_used f nothing zeros).Holds x
unfolding row_where
either_holds true f nothing zeros x used unused plain = used
either_holds false f nothing zeros x used unused plain = (plain refl, unused)

counted_there : {X : Type 0} (limit : ℕ) (f : Format X) (a : ℕ × List X) → (pair (count limit) (λ n. table n f)).Holds a → (length a.1, a.1) ≡ a
unfolding pair times_with
counted_there {X} limit f a h = ap (λ (k : ℕ). with_count k a.1) h.1.0
  where
    with_count : ℕ → List X → ℕ × List X
    with_count k xs = (k, xs)

pub counted_law : {X : Type 0} (limit : ℕ) (f : Format X) → IsFormat f → IsFormat (counted_rows limit f)
counted_law limit f p = row_law _ _ _ (counted_there limit f) (λ x. refl) (pair_law _ _ (count_law limit) (λ n. table_law n f p))
