-- F12 of the calculations of subroutines: BEGSR and ENDSR in pairs; the calculations of each subroutine end with its ENDSR.
use Rattle.std.proofs.Common.{◌≡◌, Bool, true, false, not, cond, ◌&&◌, ◌||◌, List, [], ◌∷◌, ◌++◌, Option, None, Some, refl, sym, ap, ◌∙◌, subst}
use Rattle.std.specs.List.{filter, last_or}
use Rattle.std.specs.Option.{option_map_or}
use Rattle.rpg_cards.specs.Statements.{Acts, Begins, Calculation, Executes, Statement, Ends, GoesTo, Marks, Nothing, WritesExceptions}
use Rattle.rpg_cards.specs.Keys.{Key, Name}
use Rattle.rpg_cards.specs.Labels.{begins_subroutine, brackets, ends, is_begsr, is_endsr, is_inside_subroutine}
use Rattle.rpg_cards.specs.Plain.{Each}
use Rattle.rpg_cards.specs.Sections.{begun_by, is_subroutine, of_control, subroutines_of, unless_begun, up_to_begin, with_begun}
use Rattle.rpg_cards.specs.declared.spec_card.SpecCard.{SpecCard}
use Rattle.rpg_faults_flow.proofs.Facts.{Facts}
use Rattle.rpg_faults_flow.proofs.Walk.{EachSplit}
use Rattle.rpg_faults_flow.specs.Order.{is_bracket, is_closed}

abbrev pub PairedAt : Statement Key → Bool → (Bool → Type 0) → Type 0
PairedAt (Begins n) false rest = rest true
PairedAt (Begins n) true rest = ⊥
PairedAt (Ends l) true rest = rest false
PairedAt (Ends l) false rest = ⊥
PairedAt (Acts a) true rest = rest true
PairedAt WritesExceptions true rest = rest true
PairedAt (GoesTo l) true rest = rest true
PairedAt (Executes s) true rest = rest true
PairedAt (Marks l) true rest = rest true
PairedAt Nothing true rest = rest true
PairedAt (Acts a) false rest = ⊥
PairedAt WritesExceptions false rest = ⊥
PairedAt (GoesTo l) false rest = ⊥
PairedAt (Executes s) false rest = ⊥
PairedAt (Marks l) false rest = ⊥
PairedAt Nothing false rest = ⊥

abbrev pub IsOver : Bool → Type 0
IsOver false = Unit {0}
IsOver true = ⊥

-- with a subroutine open or not before them
abbrev pub ArePaired : List (Calculation Key) → Bool → Type 0
ArePaired [] inside = IsOver inside
ArePaired (g ∷ gs) inside = PairedAt g.statement inside (λ b. ArePaired gs b)

-- ---- the last one that passes a test

last_filter : {X : Type 0} (test : X → Bool) (xs : List X) (x : X) (d : Option X) → last_or d (filter test (xs ++ x ∷ [])) ≡ cond (test x) (Some x) (last_or d (filter test xs))
last_filter {X} test [] x d = by (test x)
  where
    by : (b : Bool) → last_or d (cond b (x ∷ []) []) ≡ cond b (Some x) d
    by true = refl
    by false = refl
last_filter {X} test (y ∷ ys) x d = by (test y) (λ e. last_filter test ys x e)
  where
    by : (b : Bool) → ((e : Option X) → last_or e (filter test (ys ++ x ∷ [])) ≡ cond (test x) (Some x) (last_or e (filter test ys))) → last_or d (cond b (y ∷ filter test (ys ++ x ∷ [])) (filter test (ys ++ x ∷ []))) ≡ cond (test x) (Some x) (last_or d (cond b (y ∷ filter test ys) (filter test ys)))
    by true following = following (Some y)
    by false following = following d

-- with one more, of that bracket: (BEGSR, ENDSR)
abbrev pub inside_by : Bool → Bool → Bool → Bool
inside_by inside b e = cond (b || e) b inside

pub is_inside-push : (gs : List (Calculation Key)) (g : Calculation Key) → is_inside_subroutine (gs ++ g ∷ []) ≡ inside_by (is_inside_subroutine gs) (begins_subroutine g) (ends g)
is_inside-push gs g = ap (λ o. option_map_or begins_subroutine o false) (last_filter (λ g. begins_subroutine g || ends g) gs g None) ∙ by (begins_subroutine g || ends g)
  where
    by : (b : Bool) → option_map_or begins_subroutine (cond b (Some g) (last_or None (brackets gs))) false ≡ cond b (begins_subroutine g) (is_inside_subroutine gs)
    by true = refl
    by false = refl

closed_cons : (g : Calculation Key) (gs : List (Calculation Key)) → is_closed (brackets (g ∷ gs)) ≡ cond (begins_subroutine g || ends g) (ends g) (is_closed (brackets gs))
closed_cons g gs = by (begins_subroutine g || ends g)
  where
    by : (b : Bool) → is_closed (cond b (g ∷ brackets gs) (brackets gs)) ≡ cond b (ends g) (is_closed (brackets gs))
    by true = refl
    by false = refl

-- ---- one calculation

abbrev PairedBy : Bool → Statement Key → Bool → List (Calculation Key) → Type 0
PairedBy true d b gs = PairedAt d b (λ b. ArePaired gs b)
PairedBy false d b gs = ArePaired gs b

paired_by : (x : Bool) (g : Calculation Key) (b : Bool) (gs : List (Calculation Key)) → PairedBy x g.statement b gs → ArePaired (cond x (g ∷ gs) gs) b
paired_by true g b gs h = h
paired_by false g b gs h = h

abbrev Rest : Bool → Statement Key → Bool → Bool → List (Calculation Key) → Type 0
Rest s d inside closed gs = (inside_by inside (s && is_begsr d) (s && is_endsr d) ≡ true → closed ≡ true) → ArePaired gs (inside_by inside (s && is_begsr d) (s && is_endsr d))

one : (s : Bool) (d : Statement Key) (inside closed : Bool) (gs : List (Calculation Key))
    → (s && (not (is_bracket d) && not inside)) ≡ false
    → ((is_bracket d && not s) || (((s && is_endsr d) && not inside) || ((s && is_begsr d) && not closed))) ≡ false
    → (inside ≡ true → cond ((s && is_begsr d) || (s && is_endsr d)) (s && is_endsr d) closed ≡ true)
    → Rest s d inside closed gs → PairedBy s d inside gs
one false d inside closed gs outside paired known rest = rest known
one true (Begins n) true closed gs outside paired known rest = let no = known refl in absurd cc
one true (Begins n) false true gs outside paired known rest = rest (λ e. refl)
one true (Begins n) false false gs outside paired known rest = absurd cc
one true (Ends l) true closed gs outside paired known rest = rest (λ e. absurd cc)
one true (Ends l) false closed gs outside paired known rest = absurd cc
one true (Acts a) true closed gs outside paired known rest = rest known
one true WritesExceptions true closed gs outside paired known rest = rest known
one true (GoesTo l) true closed gs outside paired known rest = rest known
one true (Executes n) true closed gs outside paired known rest = rest known
one true (Marks l) true closed gs outside paired known rest = rest known
one true Nothing true closed gs outside paired known rest = rest known
one true (Acts a) false closed gs outside paired known rest = absurd cc
one true WritesExceptions false closed gs outside paired known rest = absurd cc
one true (GoesTo l) false closed gs outside paired known rest = absurd cc
one true (Executes n) false closed gs outside paired known rest = absurd cc
one true (Marks l) false closed gs outside paired known rest = absurd cc
one true Nothing false closed gs outside paired known rest = absurd cc

pub are_paired : (cards : List SpecCard) (front gs : List (Calculation Key)) → EachSplit (Facts cards) front gs → (is_inside_subroutine front ≡ true → is_closed (brackets gs) ≡ true) → ArePaired (of_control is_subroutine gs) (is_inside_subroutine front)
are_paired cards front [] h known = by (is_inside_subroutine front) known
  where
    by : (b : Bool) → (b ≡ true → false ≡ true) → IsOver b
    by false k = tt
    by true k = let no = k refl in absurd cc
are_paired cards front (g ∷ gs) h known =
    paired_by (is_subroutine g.control) g (is_inside_subroutine front) (of_control is_subroutine gs)
    (one (is_subroutine g.control) g.statement (is_inside_subroutine front) (is_closed (brackets gs)) (of_control is_subroutine gs) h.0.inside h.0.paired
    (λ e. sym (closed_cons g gs) ∙ known e)
    (λ k. subst (ArePaired (of_control is_subroutine gs)) (is_inside-push front g) (are_paired cards (front ++ g ∷ []) gs h.1 (λ e. k (sym (is_inside-push front g) ∙ e)))))

-- ---- subroutines end with their ENDSR

-- after an ENDSR the next BEGSR follows, if anything does
pub none_before : (gs : List (Calculation Key)) → ArePaired gs false → up_to_begin gs ≡ []
none_before [] h = refl
none_before (g ∷ gs) h = by_statement g.statement h
  where
    by_statement : (d : Statement Key) → PairedAt d false (λ b. ArePaired gs b) → unless_begun (begun_by d) (g ∷ up_to_begin gs) ≡ []
    by_statement (Begins n) h = refl
    by_statement (Acts a) h = absurd h
    by_statement WritesExceptions h = absurd h
    by_statement (GoesTo l) h = absurd h
    by_statement (Executes s) h = absurd h
    by_statement (Marks l) h = absurd h
    by_statement (Ends l) h = absurd h
    by_statement Nothing h = absurd h

pub record EndsWell (gs : List (Calculation Key)) : Type 0 where
  pub front : List (Calculation Key)
  pub last : Calculation Key
  pub label : Option Name
  pub split : gs ≡ front ++ last ∷ []
  pub returns : last.statement ≡ Ends label

pub ends_well : (gs : List (Calculation Key)) → ArePaired gs true → EndsWell (up_to_begin gs)
ends_well [] h = absurd h
ends_well (g ∷ gs) h = by_statement g.statement refl h (ends_well gs)
  where
    more : (d : Statement Key) → begun_by d ≡ None → EndsWell (up_to_begin gs) → EndsWell (unless_begun (begun_by d) (g ∷ up_to_begin gs))
    more d e r = record {
      front = g ∷ r.front;
      last = r.last;
      label = r.label;
      split = ap (λ o. unless_begun o (g ∷ up_to_begin gs)) e ∙ ap (λ xs. g ∷ xs) r.split;
      returns = r.returns;
    }

    by_statement : (d : Statement Key) → g.statement ≡ d → PairedAt d true (λ b. ArePaired gs b) → (ArePaired gs true → EndsWell (up_to_begin gs)) → EndsWell (unless_begun (begun_by d) (g ∷ up_to_begin gs))
    by_statement (Begins n) e h r = absurd h
    by_statement (Ends l) e h r = record { front = []; last = g; label = l; split = ap (λ xs. g ∷ xs) (none_before gs h); returns = e }
    by_statement (Acts a) e h r = more (Acts a) refl (r h)
    by_statement WritesExceptions e h r = more WritesExceptions refl (r h)
    by_statement (GoesTo l) e h r = more (GoesTo l) refl (r h)
    by_statement (Executes s) e h r = more (Executes s) refl (r h)
    by_statement (Marks l) e h r = more (Marks l) refl (r h)
    by_statement Nothing e h r = more Nothing refl (r h)

pub all_end_well : (gs : List (Calculation Key)) (inside : Bool) → ArePaired gs inside → Each (λ s. EndsWell s.body) (subroutines_of gs)
all_end_well [] inside h = tt
all_end_well (g ∷ gs) inside h = by_statement inside g.statement h (λ b. all_end_well gs b)
  where
    by_statement : (inside : Bool) (d : Statement Key) → PairedAt d inside (λ b. ArePaired gs b) → ((b : Bool) → ArePaired gs b → Each (λ s. EndsWell s.body) (subroutines_of gs)) → Each (λ s. EndsWell s.body) (with_begun (begun_by d) (up_to_begin gs) (subroutines_of gs))
    by_statement false (Begins n) h r = (ends_well gs h, r true h)
    by_statement true (Begins n) h r = absurd h
    by_statement true (Ends l) h r = r false h
    by_statement true (Acts a) h r = r true h
    by_statement true WritesExceptions h r = r true h
    by_statement true (GoesTo l) h r = r true h
    by_statement true (Executes s) h r = r true h
    by_statement true (Marks l) h r = r true h
    by_statement true Nothing h r = r true h
    by_statement false (Ends l) h r = absurd h
    by_statement false (Acts a) h r = absurd h
    by_statement false WritesExceptions h r = absurd h
    by_statement false (GoesTo l) h r = absurd h
    by_statement false (Executes s) h r = absurd h
    by_statement false (Marks l) h r = absurd h
    by_statement false Nothing h r = absurd h
