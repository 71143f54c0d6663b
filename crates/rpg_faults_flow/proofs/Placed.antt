-- Where calculations, labels and subroutines stand: the section of a label by those before it is the section that has it.
use Rattle.std.proofs.Common.{◌≡◌, ℕ, suc, ◌+◌, Bool, true, false, not, cond, ◌&&◌, ◌||◌, List, [], ◌∷◌, ◌++◌, Option, None, Some, refl, sym, ap, ◌∙◌, arith, ◌⊎◌, inl, inr}
use Rattle.std.specs.Prelude.{find}
use Rattle.std.specs.Option.{option_map, option_map_or, option_to_list}
use Rattle.rpg_cards.specs.Statements.{Acts, Begins, Calculation, Executes, Statement, Ends, GoesTo, Marks, Nothing, WritesExceptions}
use Rattle.rpg_cards.specs.Keys.{Key, Name}
use Rattle.rpg_cards.specs.Labels as labels
use Rattle.rpg_cards.specs.Labels.{as_label, begins_subroutine, begun_count, defined_name, is_begsr, label_named, labels_after, section_by, section_of}
use Rattle.rpg_cards.specs.declared.labels.Label.{Label}
use Rattle.rpg_cards.specs.declared.labels.Section.{Section}
use Rattle.rpg_cards.specs.declared.labels.Section.TheVariants as section_kind
use Rattle.rpg_cards.specs.Plain.{defines_subroutine}
use Rattle.rpg_cards.specs.Sections.{Subroutine, begun_by, callee, is_same_name, is_subroutine, label_on, of_control, subroutines_of, unless_begun, up_to_begin, with_begun}
use Rattle.rpg_cards.specs.declared.spec_card.SpecCard.{SpecCard}
use Rattle.rpg_faults_flow.proofs.Facts.{Facts}
use Rattle.rpg_faults_flow.proofs.Walk.{EachSplit}
use Rattle.rpg_faults_flow.specs.Order.{is_bracket, unpaired}
use Rattle.rpg_sheet_specs.specs.declared.calculation.ControlLevel.{ControlLevel}
use Rattle.rpg_sheet_specs.specs.declared.calculation.ControlLevel.TheVariants as control

-- ---- statements: BEGSR, and the others

pub record IsOther (d : Statement Key) : Type 0 where
  pub begun : begun_by d ≡ None
  pub begsr : is_begsr d ≡ false
  pub defined_name : defined_name d ≡ as_label (label_on d)

pub view : (d : Statement Key) → ((n : Option Name) × (d ≡ Begins n)) ⊎ IsOther d
view (Begins n) = inl (n, refl)
view (Acts a) = inr (record { begun = refl; begsr = refl; defined_name = refl })
view WritesExceptions = inr (record { begun = refl; begsr = refl; defined_name = refl })
view (GoesTo l) = inr (record { begun = refl; begsr = refl; defined_name = refl })
view (Executes n) = inr (record { begun = refl; begsr = refl; defined_name = refl })
view (Marks l) = inr (record { begun = refl; begsr = refl; defined_name = refl })
view (Ends l) = inr (record { begun = refl; begsr = refl; defined_name = refl })
view Nothing = inr (record { begun = refl; begsr = refl; defined_name = refl })

-- ---- the calculations of subroutines

abbrev pub bodies : List (Calculation Key) → List (Calculation Key)
bodies gs = of_control is_subroutine gs

abbrev pub subs : List (Calculation Key) → List (Subroutine Key)
subs gs = subroutines_of (bodies gs)

or_first : (a b : Bool) → (a || b) ≡ false → a ≡ false
or_first true b e = absurd cc
or_first false b e = refl

-- BEGSR is among SR cards
pub begin_control : (front : List (Calculation Key)) (g : Calculation Key) (gs : List (Calculation Key)) (n : Option Name) → g.statement ≡ Begins n → unpaired front g gs ≡ false → is_subroutine g.control ≡ true
begin_control front g gs n e h =
    by (is_subroutine g.control) (ap (λ d. is_bracket d && not (is_subroutine g.control)) (sym e) ∙ or_first (is_bracket g.statement && not (is_subroutine g.control)) _ h)
  where
    by : (s : Bool) → (true && not s) ≡ false → s ≡ true
    by true e = refl
    by false e = absurd cc

pub subs_begin : (g : Calculation Key) (gs : List (Calculation Key)) (n : Option Name) → g.statement ≡ Begins n → is_subroutine g.control ≡ true → subs (g ∷ gs) ≡ record { name = n; body = up_to_begin (bodies gs) } ∷ subs gs
subs_begin g gs n e s =
    ap (λ b. subroutines_of (cond b (g ∷ bodies gs) (bodies gs))) s
    ∙ ap (λ (d : Statement Key). with_begun (begun_by d) (up_to_begin (bodies gs)) (subs gs)) e

pub subs_other : (g : Calculation Key) (gs : List (Calculation Key)) → begun_by g.statement ≡ None → subs (g ∷ gs) ≡ subs gs
subs_other g gs e = by (is_subroutine g.control)
  where
    by : (b : Bool) → subroutines_of (cond b (g ∷ bodies gs) (bodies gs)) ≡ subs gs
    by true = ap (λ o. with_begun o (up_to_begin (bodies gs)) (subs gs)) e
    by false = refl

pub up_begin : (g : Calculation Key) (gs : List (Calculation Key)) (n : Option Name) → g.statement ≡ Begins n → is_subroutine g.control ≡ true → up_to_begin (bodies (g ∷ gs)) ≡ []
up_begin g gs n e s =
    ap (λ b. up_to_begin (cond b (g ∷ bodies gs) (bodies gs))) s
    ∙ ap (λ (d : Statement Key). unless_begun (begun_by d) (g ∷ up_to_begin (bodies gs))) e

pub up_other : (g : Calculation Key) (gs : List (Calculation Key)) → begun_by g.statement ≡ None → up_to_begin (bodies (g ∷ gs)) ≡ cond (is_subroutine g.control) (g ∷ up_to_begin (bodies gs)) (up_to_begin (bodies gs))
up_other g gs e = by (is_subroutine g.control)
  where
    by : (b : Bool) → up_to_begin (cond b (g ∷ bodies gs) (bodies gs)) ≡ cond b (g ∷ up_to_begin (bodies gs)) (up_to_begin (bodies gs))
    by true = ap (λ o. unless_begun o (g ∷ up_to_begin (bodies gs))) e
    by false = refl

-- ---- how many have begun

count_push : (gs : List (Calculation Key)) (g : Calculation Key) → begun_count (gs ++ g ∷ []) ≡ begun_count gs + cond (begins_subroutine g) 1 0
count_push [] g = by (begins_subroutine g)
  where
    by : (b : Bool) → cond b 1 0 ≡ 0 + cond b 1 0
    by true = refl
    by false = refl
count_push (h ∷ hs) g = by (begins_subroutine h) (count_push hs g)
  where
    by : (b : Bool) → begun_count (hs ++ g ∷ []) ≡ begun_count hs + cond (begins_subroutine g) 1 0 → cond b (suc (begun_count (hs ++ g ∷ []))) (begun_count (hs ++ g ∷ [])) ≡ cond b (suc (begun_count hs)) (begun_count hs) + cond (begins_subroutine g) 1 0
    by true e = omega (arith, e)
    by false e = e

pub begun_more : (front : List (Calculation Key)) (g : Calculation Key) (n : Option Name) → g.statement ≡ Begins n → is_subroutine g.control ≡ true → begun_count (front ++ g ∷ []) ≡ begun_count front + 1
begun_more front g n e s = count_push front g ∙ ap (λ b. begun_count front + cond b 1 0) (ap (λ b. b && is_begsr g.statement) s ∙ ap is_begsr e)

and_false : (a : Bool) → (a && false) ≡ false
and_false true = refl
and_false false = refl

pub not_begins : (g : Calculation Key) → is_begsr g.statement ≡ false → begins_subroutine g ≡ false
not_begins g e = ap (λ b. is_subroutine g.control && b) e ∙ and_false (is_subroutine g.control)

pub begun_same : (front : List (Calculation Key)) (g : Calculation Key) → is_begsr g.statement ≡ false → begun_count (front ++ g ∷ []) ≡ begun_count front
begun_same front g e = count_push front g ∙ ap (λ b. begun_count front + cond b 1 0) (not_begins g e) ∙ omega arith

-- ---- looking a name up

abbrev pub named_so : Name → Label → Bool
named_so m l = is_same_name (Some m) (Some l.named.name)

abbrev label_here : Name → Bool → Section → Label
label_here x is_subroutine section = record { named = record { name = x; is_subroutine = is_subroutine }; section = section }

-- the first label found is that of the first calculation, or of a later one
pub find_label : (m : Name) (section : Section) (l : Option Name) (rest : List Label) (L : Label)
    → find (named_so m) (option_to_list (option_map (λ n. record { named = n; section = section }) (as_label l)) ++ rest) ≡ Some L
    → ((is_same_name (Some m) l ≡ true) × (L.named.is_subroutine ≡ false) × (L.section ≡ section)) ⊎ (find (named_so m) rest ≡ Some L)
find_label m section None rest L e = inr e
find_label m section (Some x) rest L e = by (is_same_name (Some m) (Some x)) refl e
  where
    some_same : (a b : Label) → Some a ≡ Some b → a ≡ b
    some_same a b e = ap (λ o. option_map_or (λ z. z) o a) e

    by : (b : Bool) → is_same_name (Some m) (Some x) ≡ b → cond b (Some (label_here x false section)) (find (named_so m) rest) ≡ Some L → ((is_same_name (Some m) (Some x) ≡ true) × (L.named.is_subroutine ≡ false) × (L.section ≡ section)) ⊎ (find (named_so m) rest ≡ Some L)
    by true p q = let same = some_same (label_here x false section) L q in inl (p, ap (λ (z : Label). z.named.is_subroutine) (sym same), ap (λ (z : Label). z.section) (sym same))
    by false p q = inr q

-- the same of a subroutine's name
pub find_begin : (m : Name) (section : Section) (l : Option Name) (rest : List Label) (L : Label)
    → find (named_so m) (option_to_list (option_map (λ n. record { named = n; section = section }) (labels.as_subroutine l)) ++ rest) ≡ Some L
    → ((is_same_name (Some m) l ≡ true) × (L.named.is_subroutine ≡ true) × (L.section ≡ section)) ⊎ ((is_same_name (Some m) l ≡ false) × (find (named_so m) rest ≡ Some L))
find_begin m section None rest L e = inr (refl, e)
find_begin m section (Some x) rest L e = by (is_same_name (Some m) (Some x)) refl e
  where
    some_same : (a b : Label) → Some a ≡ Some b → a ≡ b
    some_same a b e = ap (λ o. option_map_or (λ z. z) o a) e

    by : (b : Bool) → is_same_name (Some m) (Some x) ≡ b → cond b (Some (label_here x true section)) (find (named_so m) rest) ≡ Some L → ((is_same_name (Some m) (Some x) ≡ true) × (L.named.is_subroutine ≡ true) × (L.section ≡ section)) ⊎ ((is_same_name (Some m) (Some x) ≡ false) × (find (named_so m) rest ≡ Some L))
    by true p q = let same = some_same (label_here x true section) L q in inl (p, ap (λ (z : Label). z.named.is_subroutine) (sym same), ap (λ (z : Label). z.section) (sym same))
    by false p q = inr (p, q)

-- ---- a subroutine that is found is there, and its number is that of its BEGSR

abbrev pub Found : Name → List (Calculation Key) → List (Calculation Key) → Label → Type 0
Found m front gs L = (defines_subroutine (Some m) (subs gs) ≡ true) × (L.section ≡ section_kind.Subroutine (begun_count front + callee (Some m) (subs gs)))

pub subroutine_found : (cards : List SpecCard) (m : Name) (front gs : List (Calculation Key)) (L : Label) → EachSplit (Facts cards) front gs → label_named m (labels_after front gs) ≡ Some L → L.named.is_subroutine ≡ true → Found m front gs L
subroutine_found cards m front [] L h e is = absurd cc
subroutine_found cards m front (g ∷ gs) L h e is = by_view (λ f. subroutine_found cards m (front ++ g ∷ []) gs L h.1 f is) (view g.statement)
  where
    by_view : (label_named m (labels_after (front ++ g ∷ []) gs) ≡ Some L → (defines_subroutine (Some m) (subs gs) ≡ true) × (L.section ≡ section_kind.Subroutine (begun_count (front ++ g ∷ []) + callee (Some m) (subs gs)))) → ((n : Option Name) × (g.statement ≡ Begins n)) ⊎ IsOther g.statement → (defines_subroutine (Some m) (subs (g ∷ gs)) ≡ true) × (L.section ≡ section_kind.Subroutine (begun_count front + callee (Some m) (subs (g ∷ gs))))
    by_view rec (inr o) =
        by_found (find_label m (section_of front g) (label_on g.statement) (labels_after (front ++ g ∷ []) gs) L
        (ap (λ x. find (named_so m) (option_to_list (option_map (λ n. record { named = n; section = section_of front g }) x) ++ labels_after (front ++ g ∷ []) gs)) (sym o.defined_name) ∙ e))
      where
        by_found : ((is_same_name (Some m) (label_on g.statement) ≡ true) × (L.named.is_subroutine ≡ false) × (L.section ≡ section_of front g)) ⊎ (find (named_so m) (labels_after (front ++ g ∷ []) gs) ≡ Some L)
            → (defines_subroutine (Some m) (subs (g ∷ gs)) ≡ true) × (L.section ≡ section_kind.Subroutine (begun_count front + callee (Some m) (subs (g ∷ gs))))
        by_found (inl x) = let no = sym x.1 ∙ is in absurd cc
        by_found (inr f) =
            let r = rec f in (
              ap (defines_subroutine (Some m)) (subs_other g gs o.begun) ∙ r.0,
              r.1 ∙ ap (λ k. section_kind.Subroutine (k + callee (Some m) (subs gs))) (begun_same front g o.begsr) ∙ ap (λ ss. section_kind.Subroutine (begun_count front + callee (Some m) ss)) (sym (subs_other g gs o.begun)),
            )
    by_view rec (inl (n, d)) =
        by_found (find_begin m (section_of front g) n (labels_after (front ++ g ∷ []) gs) L
        (ap (λ (x : Statement Key). find (named_so m) (option_to_list (option_map (λ n. record { named = n; section = section_of front g }) (defined_name x)) ++ labels_after (front ++ g ∷ []) gs)) (sym d) ∙ e))
      where
        is_sub : is_subroutine g.control ≡ true
        is_sub = begin_control front g gs n d h.0.paired

        section : section_of front g ≡ section_kind.Subroutine (begun_count front)
        section = ap (λ b. section_by front b g.control) (ap (λ b. b && is_begsr g.statement) is_sub ∙ ap is_begsr d) ∙ by_control g.control is_sub
          where
            by_control : (c : ControlLevel) → is_subroutine c ≡ true → section_by front true c ≡ section_kind.Subroutine (begun_count front)
            by_control control.Detail e = absurd cc
            by_control (control.Total i) e = absurd cc
            by_control control.Subroutine e = refl
            by_control control.And e = absurd cc
            by_control control.Or e = absurd cc

        by_found : ((is_same_name (Some m) n ≡ true) × (L.named.is_subroutine ≡ true) × (L.section ≡ section_of front g)) ⊎ ((is_same_name (Some m) n ≡ false) × (find (named_so m) (labels_after (front ++ g ∷ []) gs) ≡ Some L))
            → (defines_subroutine (Some m) (subs (g ∷ gs)) ≡ true) × (L.section ≡ section_kind.Subroutine (begun_count front + callee (Some m) (subs (g ∷ gs))))
        by_found (inl x) = (
          ap (defines_subroutine (Some m)) (subs_begin g gs n d is_sub) ∙ ap (λ b. b || defines_subroutine (Some m) (subs gs)) x.0,
          x.2 ∙ section ∙ ap section_kind.Subroutine (omega arith) ∙ ap (λ k. section_kind.Subroutine (begun_count front + k)) (sym (ap (callee (Some m)) (subs_begin g gs n d is_sub) ∙ ap (λ b. cond b 0 (suc (callee (Some m) (subs gs)))) x.0)),
        )
        by_found (inr x) =
            let r = rec x.1 in (
              ap (defines_subroutine (Some m)) (subs_begin g gs n d is_sub) ∙ ap (λ b. b || defines_subroutine (Some m) (subs gs)) x.0 ∙ r.0,
              r.1 ∙ ap (λ k. section_kind.Subroutine (k + callee (Some m) (subs gs))) (begun_more front g n d is_sub) ∙ ap section_kind.Subroutine (moved (begun_count front) (callee (Some m) (subs gs)))
                  ∙ ap (λ k. section_kind.Subroutine (begun_count front + k)) (sym (ap (callee (Some m)) (subs_begin g gs n d is_sub) ∙ ap (λ b. cond b 0 (suc (callee (Some m) (subs gs)))) x.0)),
            )
          where
            moved : (a b : ℕ) → a + 1 + b ≡ a + suc b
            moved a b = omega arith
