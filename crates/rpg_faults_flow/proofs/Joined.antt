-- A source of which no card breaks F9, F10, F12, F13 or F14 has plain sections.
use Rattle.std.proofs.Common.{◌≡◌, ℕ, suc, ◌+◌, ◌-◌, ◌≤◌, Bool, true, false, not, cond, ◌&&◌, ◌||◌, List, [], ◌∷◌, ◌++◌, length, Option, None, Some, refl, sym, ap, ◌∙◌, subst, arith, ◌⊎◌, inl, inr}
use Rattle.std.specs.Prelude.{◌==◌}
use Rattle.std.specs.Option.{option_and_then, option_map, option_map_or, option_to_list}
use Rattle.std.proofs.lemmas.Bool.{eqb-true}
use Rattle.rpg_cards.specs.Calculations.{calculations}
use Rattle.rpg_cards.specs.Calls.{call_at, called_subroutine, calls, calls_after, subroutine_in}
use Rattle.rpg_cards.specs.Statements.{Acts, Begins, Calculation, Executes, Statement, Ends, GoesTo, Marks, Nothing, WritesExceptions, tests}
use Rattle.rpg_cards.specs.Keys.{Key, Name}
use Rattle.rpg_cards.specs.Labels as labels
use Rattle.rpg_cards.specs.Labels.{begun_count, is_begsr, is_endsr, label_named, section_by, section_of, target_name}
use Rattle.rpg_cards.specs.declared.labels.Label.{Label}
use Rattle.rpg_cards.specs.declared.labels.Named.{Named}
use Rattle.rpg_cards.specs.declared.labels.Section.{Section}
use Rattle.rpg_cards.specs.declared.labels.Section.TheVariants as section_kind
use Rattle.rpg_cards.specs.Plain.{ArePlain, ArePlainBodies, Each, HasGoal, IsFound, IsNoReturn, call_in, calls_from, calls_in, calls_of, defines_subroutine, has_label, with_call}
use Rattle.rpg_cards.specs.Sections.{Subroutine, begun_by, callee, is_detail, is_subroutine, is_total, of_control, sections_of, subroutines_of, unless_begun, up_to_begin, with_begun}
use Rattle.rpg_cards.specs.Groups.{joins}
use Rattle.rpg_cards.specs.declared.spec_card.SpecCard.{SpecCard}
use Rattle.rpg_faults_flow.proofs.Facts.{Facts, each_fact, lacks_name}
use Rattle.rpg_faults_flow.proofs.Counted.{subs_count}
use Rattle.rpg_faults_flow.proofs.Goals.{At, any_begun, at_first, at_next, body_at, inside_here, label_placed, own_section, part, body_after}
use Rattle.rpg_faults_flow.proofs.Paired.{ArePaired, EndsWell, all_end_well, are_paired, none_before}
use Rattle.rpg_faults_flow.proofs.Placed.{IsOther, begin_control, begun_more, begun_same, bodies, not_begins, subroutine_found, subs, subs_begin, subs_other, up_begin, up_other, view}
use Rattle.rpg_faults_flow.proofs.Walk.{EachSplit}
use Rattle.rpg_faults_flow.specs.Columns.{bad_calculation_columns}
use Rattle.rpg_faults_flow.specs.Flow.{alike, are_apart, calls_itself, leads_back, leaves_its_section, lacks_target, is_given_as, lacks_label, leaves_by}
use Rattle.rpg_faults_flow.specs.Kept.{KeepsRule}
use Rattle.rpg_faults_flow.specs.Order.{breaks_order, is_bracket}
use Rattle.rpg_sheet_specs.specs.declared.calculation.ControlLevel.{ControlLevel}
use Rattle.rpg_sheet_specs.specs.declared.calculation.ControlLevel.TheVariants as control
use Rattle.rpg_symbols.proofs.Chains.{leads_tested}
use Rattle.rpg_symbols.specs.Chains.{Call, Calls, IsCall, NoCallLeadsBack, reaches}

-- ---- of each

pub each_split : {P : List (Calculation Key) → Calculation Key → List (Calculation Key) → Type 0} (R : Calculation Key → Type 0) → ((front : List (Calculation Key)) (g : Calculation Key) (gs : List (Calculation Key)) → P front g gs → R g)
    → (front gs : List (Calculation Key)) → EachSplit P front gs → Each R gs
each_split R of front [] h = tt
each_split R of front (g ∷ gs) h = (of front g gs h.0, each_split R of (front ++ g ∷ []) gs h.1)

pub each_control : (R : Calculation Key → Type 0) (test : ControlLevel → Bool) (gs : List (Calculation Key)) → Each R gs → Each R (of_control test gs)
each_control R test [] h = tt
each_control R test (g ∷ gs) h = by (test g.control) (each_control R test gs h.1)
  where
    by : (b : Bool) → Each R (of_control test gs) → Each R (cond b (g ∷ of_control test gs) (of_control test gs))
    by true r = (h.0, r)
    by false r = r

-- of those that pass the test
each_of : (R : Calculation Key → Type 0) (test : ControlLevel → Bool) (gs : List (Calculation Key)) → Each (λ g. test g.control ≡ true → R g) gs → Each R (of_control test gs)
each_of R test [] h = tt
each_of R test (g ∷ gs) h = by (test g.control) refl (each_of R test gs h.1)
  where
    by : (b : Bool) → test g.control ≡ b → Each R (of_control test gs) → Each R (cond b (g ∷ of_control test gs) (of_control test gs))
    by true e r = (h.0 e, r)
    by false e r = r

each_up : (R : Calculation Key → Type 0) (gs : List (Calculation Key)) → Each R gs → Each R (up_to_begin gs)
each_up R [] h = tt
each_up R (g ∷ gs) h = by (begun_by g.statement) (each_up R gs h.1)
  where
    by : (o : Option (Option Name)) → Each R (up_to_begin gs) → Each R (unless_begun o (g ∷ up_to_begin gs))
    by None r = (h.0, r)
    by (Some n) r = tt

pub each_body : (R : Calculation Key → Type 0) (gs : List (Calculation Key)) → Each R gs → Each (λ s. Each R s.body) (subroutines_of gs)
each_body R [] h = tt
each_body R (g ∷ gs) h = by (begun_by g.statement) (each_up R gs h.1) (each_body R gs h.1)
  where
    by : (o : Option (Option Name)) → Each R (up_to_begin gs) → Each (λ s. Each R s.body) (subroutines_of gs) → Each (λ s. Each R s.body) (with_begun o (up_to_begin gs) (subroutines_of gs))
    by None u r = r
    by (Some n) u r = (u, r)

each_front : (R : Calculation Key → Type 0) (front : List (Calculation Key)) (last : Calculation Key) → Each R (front ++ last ∷ []) → Each R front × R last
each_front R [] last h = (tt, h.0)
each_front R (f ∷ fs) last h = let r = each_front R fs last h.1 in ((h.0, r.0), r.1)

-- ---- sections

same_part : (all : List (Calculation Key)) (ss : List (Subroutine Key)) (m : Option Name) (own section : Section) → are_apart own section ≡ false → (own ≡ section_kind.Outside → ⊥) → has_label m (part all ss section) ≡ true → has_label m (part all ss own) ≡ true
same_part all ss m section_kind.Detail section_kind.Detail a o h = h
same_part all ss m section_kind.Total section_kind.Total a o h = h
same_part all ss m (section_kind.Subroutine i) (section_kind.Subroutine j) a o h = let same = eqb-true i j (yes (i == j) a) in ap (λ k. has_label m (body_at k ss)) same ∙ h
  where
    yes : (b : Bool) → not b ≡ false → b ≡ true
    yes true e = refl
    yes false e = absurd cc
same_part all ss m section_kind.Outside section a o h = absurd (o refl)
same_part all ss m section_kind.Detail section_kind.Outside a o h = absurd cc
same_part all ss m section_kind.Total section_kind.Outside a o h = absurd cc
same_part all ss m (section_kind.Subroutine i) section_kind.Outside a o h = absurd cc
same_part all ss m section_kind.Detail section_kind.Total a o h = absurd cc
same_part all ss m section_kind.Detail (section_kind.Subroutine j) a o h = absurd cc
same_part all ss m section_kind.Total section_kind.Detail a o h = absurd cc
same_part all ss m section_kind.Total (section_kind.Subroutine j) a o h = absurd cc
same_part all ss m (section_kind.Subroutine i) section_kind.Detail a o h = absurd cc
same_part all ss m (section_kind.Subroutine i) section_kind.Total a o h = absurd cc

IsIn : Section → Type 0
IsIn section_kind.Outside = ⊥
IsIn section_kind.Detail = Unit {0}
IsIn section_kind.Total = Unit {0}
IsIn (section_kind.Subroutine n) = Unit {0}

is_in : (s : Section) → IsIn s → s ≡ section_kind.Outside → ⊥
unfolding IsIn
is_in s h e = subst IsIn e h

section_is_in : (cards : List SpecCard) (front : List (Calculation Key)) (g : Calculation Key) (gs : List (Calculation Key)) → Facts cards front g gs → is_begsr g.statement ≡ false → IsIn (section_of front g)
unfolding IsIn
section_is_in cards front g gs f b = subst IsIn (ap (λ x. section_by front x g.control) (sym (not_begins g b))) (by g.control refl)
  where
    by : (c : ControlLevel) → g.control ≡ c → IsIn (section_by front false c)
    by control.Detail e = tt
    by (control.Total t) e = tt
    by control.Subroutine e = subst IsIn (ap (λ b. cond b (section_kind.Subroutine (begun_count front - 1)) section_kind.Outside) (sym (inside_here cards front g gs f (ap is_subroutine e) b))) tt
    by control.And e = let never = sym (ap joins e) ∙ f.begins_group in absurd cc
    by control.Or e = let never = sym (ap joins e) ∙ f.begins_group in absurd cc

module _ (cards : List SpecCard) where
  abbrev pub all : List (Calculation Key)
  all = calculations cards

  abbrev pub given : List Label
  given = labels.labels all

  module _ (facts : EachSplit (Facts cards) [] all) where
    -- ---- F10, F13

    goto : (m : Name) (own : Section) (x : Option Label) → label_named m given ≡ x → not (option_map_or (λ (l : Label). alike l.named.is_subroutine false) x false) ≡ false
        → option_map_or (leaves_by own (record { name = m; is_subroutine = false })) x false ≡ false → IsIn own → has_label (Some m) (part all (subs all) own) ≡ true
    goto m own None e f n o = absurd cc
    goto m own (Some L) e f n o = by L.named.is_subroutine refl f n
      where
        by : (b : Bool) → L.named.is_subroutine ≡ b → not (alike b false) ≡ false → (not b && (true && are_apart own L.section)) ≡ false → has_label (Some m) (part all (subs all) own) ≡ true
        by true p f n = absurd cc
        by false p f n = same_part all (subs all) (Some m) own L.section n (is_in own o) (label_placed cards all m [] all L refl (at_first all) facts e p)

    goal_at : (front : List (Calculation Key)) (g : Calculation Key) (gs : List (Calculation Key)) → Facts cards front g gs → IsOther g.statement → HasGoal (part all (subs all) (section_of front g)) g.statement
    goal_at front g gs f o = by g.statement f.named f.found f.near
      where
        by : (d : Statement Key) → lacks_name d ≡ false → option_map_or (λ n. not (is_given_as given n)) (target_name d) false ≡ false → option_map_or (λ (n : Named). option_map_or (leaves_by (section_of front g) n) (label_named n.name given) false) (target_name d) false ≡ false
            → HasGoal (part all (subs all) (section_of front g)) d
        by (GoesTo None) a b c = absurd cc
        by (GoesTo (Some m)) a b c = goto m (section_of front g) (label_named m given) refl b c (section_is_in cards front g gs f o.begsr)
        by (Acts x) a b c = tt
        by WritesExceptions a b c = tt
        by (Executes n) a b c = tt
        by (Marks l) a b c = tt
        by (Begins n) a b c = tt
        by (Ends l) a b c = tt
        by Nothing a b c = tt

    abbrev Goals : List (Calculation Key) → List (Calculation Key) → Type 0
    Goals front gs = ((n : ℕ) → begun_count front ≡ suc n → Each (λ g. HasGoal (body_at n (subs all)) g.statement) (up_to_begin (bodies gs))) × Each (λ (s : Subroutine Key). Each (λ g. HasGoal s.body g.statement) s.body) (subs gs)

    goals_after : (front gs : List (Calculation Key)) → At (subs all) front gs → EachSplit (Facts cards) front gs → Goals front gs
    goals_after front [] a h = (λ n e. tt, tt)
    goals_after front (g ∷ gs) a h = by_view (goals_after (front ++ g ∷ []) gs (at_next (subs all) front g gs h.0.paired a) h.1) (view g.statement)
      where
        by_view : Goals (front ++ g ∷ []) gs → ((n : Option Name) × (g.statement ≡ Begins n)) ⊎ IsOther g.statement → Goals front (g ∷ gs)
        by_view rec (inl (n, d)) =
            let s = begin_control front g gs n d h.0.paired in
            let own = body_after (begun_count front) (subs all) (subs gs) (record { name = n; body = up_to_begin (bodies gs) }) (a.following ∙ subs_begin g gs n d s) in (
              λ m e. subst (Each (λ g. HasGoal (body_at m (subs all)) g.statement)) (sym (up_begin g gs n d s)) tt,
              subst (Each (λ (s : Subroutine Key). Each (λ g. HasGoal s.body g.statement) s.body)) (sym (subs_begin g gs n d s))
                  (subst (λ b. Each (λ (g : Calculation Key). HasGoal b g.statement) (up_to_begin (bodies gs))) own (rec.0 (begun_count front) (begun_more front g n d s ∙ omega arith)), rec.1),
            )
        by_view rec (inr o) = (
          λ n e. subst (Each (λ g. HasGoal (body_at n (subs all)) g.statement)) (sym (up_other g gs o.begun)) (by_control n e (is_subroutine g.control) refl),
          subst (Each (λ (s : Subroutine Key). Each (λ g. HasGoal s.body g.statement) s.body)) (sym (subs_other g gs o.begun)) rec.1,
        )
          where
            by_control : (n : ℕ) → begun_count front ≡ suc n → (b : Bool) → is_subroutine g.control ≡ b → Each (λ g. HasGoal (body_at n (subs all)) g.statement) (cond b (g ∷ up_to_begin (bodies gs)) (up_to_begin (bodies gs)))
            by_control n e true s = (
              subst (λ x. HasGoal (part all (subs all) x) g.statement) (own_section front g n s o.begsr (inside_here cards front g gs h.0 s o.begsr) e) (goal_at front g gs h.0 o),
              rec.0 n (begun_same front g o.begsr ∙ e),
            )
            by_control n e false s = rec.0 n (begun_same front g o.begsr ∙ e)

    -- ---- F10 of EXSR

    called_there : (m : Name) (x : Option Label) → label_named m given ≡ x → not (option_map_or (λ (l : Label). alike l.named.is_subroutine true) x false) ≡ false
        → (defines_subroutine (Some m) (subs all) ≡ true) × (option_and_then (λ (l : Label). cond l.named.is_subroutine (subroutine_in l.section) None) x ≡ Some (callee (Some m) (subs all)))
    called_there m None e f = absurd cc
    called_there m (Some L) e f = by L.named.is_subroutine refl f
      where
        by : (b : Bool) → L.named.is_subroutine ≡ b → not (alike b true) ≡ false → (defines_subroutine (Some m) (subs all) ≡ true) × (cond b (subroutine_in L.section) None ≡ Some (callee (Some m) (subs all)))
        by false p f = absurd cc
        by true p f = let r = subroutine_found cards m [] all L facts e p in (r.0, ap subroutine_in r.1 ∙ ap Some (omega arith))

    found_at : (g : Calculation Key) → lacks_name g.statement ≡ false → lacks_label given g ≡ false → IsFound (subs all) g.statement
    found_at g a b = by g.statement a b
      where
        by : (d : Statement Key) → lacks_name d ≡ false → option_map_or (λ n. not (is_given_as given n)) (target_name d) false ≡ false → IsFound (subs all) d
        by (Executes None) a b = absurd cc
        by (Executes (Some m)) a b = (called_there m (label_named m given) refl b).0
        by (GoesTo l) a b = tt
        by (Acts x) a b = tt
        by WritesExceptions a b = tt
        by (Marks l) a b = tt
        by (Begins n) a b = tt
        by (Ends l) a b = tt
        by Nothing a b = tt

    -- ---- F14

    abbrev ps : Calls
    ps = calls_of (subs all)

    callee_at : (g : Calculation Key) → lacks_name g.statement ≡ false → lacks_label given g ≡ false → option_and_then (called_subroutine given) (target_name g.statement) ≡ option_map (λ n. callee n (subs all)) (call_in g.statement)
    callee_at g a b = by g.statement a b
      where
        by : (d : Statement Key) → lacks_name d ≡ false → option_map_or (λ n. not (is_given_as given n)) (target_name d) false ≡ false → option_and_then (called_subroutine given) (target_name d) ≡ option_map (λ n. callee n (subs all)) (call_in d)
        by (Executes None) a b = absurd cc
        by (Executes (Some m)) a b = (called_there m (label_named m given) refl b).1
        by (GoesTo None) a b = refl
        by (GoesTo (Some m)) a b = refl
        by (Acts x) a b = refl
        by WritesExceptions a b = refl
        by (Marks l) a b = refl
        by (Begins n) a b = refl
        by (Ends l) a b = refl
        by Nothing a b = refl

    abbrev made_call : Option ℕ → Option ℕ → Option Call
    made_call caller callee = option_and_then (λ (a : ℕ). option_map (λ (b : ℕ). (a, b)) callee) caller

    with_made : (n : ℕ) (o : Option (Option Name)) (rest : Calls) → option_to_list (made_call (Some n) (option_map (λ n. callee n (subs all)) o)) ++ rest ≡ with_call (subs all) n o rest
    with_made n None rest = refl
    with_made n (Some m) rest = refl

    no_call : (caller : Option ℕ) → made_call caller None ≡ None
    no_call None = refl
    no_call (Some n) = refl

    outside_caller : (front : List (Calculation Key)) (b : Bool) (c : ControlLevel) → is_subroutine c ≡ false → subroutine_in (section_by front b c) ≡ None
    outside_caller front b control.Detail e = refl
    outside_caller front b (control.Total t) e = refl
    outside_caller front b control.Subroutine e = absurd cc
    outside_caller front b control.And e = refl
    outside_caller front b control.Or e = refl

    -- the calls that follow, in the open subroutine and in later ones
    abbrev calls_left : List (Calculation Key) → List (Calculation Key) → Calls
    calls_left front gs = calls_in (subs all) (begun_count front - 1) (up_to_begin (bodies gs)) ++ calls_from (subs all) (begun_count front) (subs gs)

    calls_same : (front gs : List (Calculation Key)) → EachSplit (Facts cards) front gs → calls_after given front gs ≡ calls_left front gs
    calls_same front [] h = refl
    calls_same front (g ∷ gs) h = by_view (calls_same (front ++ g ∷ []) gs h.1) (view g.statement)
      where
        by_view : calls_after given (front ++ g ∷ []) gs ≡ calls_left (front ++ g ∷ []) gs → ((n : Option Name) × (g.statement ≡ Begins n)) ⊎ IsOther g.statement → calls_after given front (g ∷ gs) ≡ calls_left front (g ∷ gs)
        by_view rec (inl (n, d)) =
            let s = begin_control front g gs n d h.0.paired in
            let none : call_at given front g ≡ None = ap (λ (x : Statement Key). made_call (subroutine_in (section_of front g)) (option_and_then (called_subroutine given) (target_name x))) d ∙ wants_none n (subroutine_in (section_of front g)) in
            ap (λ o. option_to_list o ++ calls_after given (front ++ g ∷ []) gs) none
            ∙ rec
            ∙ ap (λ k. calls_in (subs all) (k - 1) (up_to_begin (bodies gs)) ++ calls_from (subs all) k (subs gs)) (begun_more front g n d s)
            ∙ moved (begun_count front)
            ∙ ap (λ ss. calls_from (subs all) (begun_count front) ss) (sym (subs_begin g gs n d s))
            ∙ ap (λ us. calls_in (subs all) (begun_count front - 1) us ++ calls_from (subs all) (begun_count front) (subs (g ∷ gs))) (sym (up_begin g gs n d s))
          where
            wants_none : (n : Option Name) (caller : Option ℕ) → made_call caller (option_and_then (called_subroutine given) (target_name (Begins n))) ≡ None
            wants_none n caller = no_call caller

            moved : (k : ℕ) → calls_in (subs all) (k + 1 - 1) (up_to_begin (bodies gs)) ++ calls_from (subs all) (k + 1) (subs gs) ≡ calls_in (subs all) k (up_to_begin (bodies gs)) ++ calls_from (subs all) (suc k) (subs gs)
            moved k = let a : k + 1 - 1 ≡ k = omega arith in let b : k + 1 ≡ suc k = omega arith in
                ap (λ x. calls_in (subs all) x (up_to_begin (bodies gs)) ++ calls_from (subs all) (k + 1) (subs gs)) a ∙ ap (λ x. calls_in (subs all) k (up_to_begin (bodies gs)) ++ calls_from (subs all) x (subs gs)) b
        by_view rec (inr o) = by_control (is_subroutine g.control) refl
          where
            following : (b : Bool) → is_subroutine g.control ≡ b → calls_left front (g ∷ gs) ≡ calls_in (subs all) (begun_count front - 1) (cond b (g ∷ up_to_begin (bodies gs)) (up_to_begin (bodies gs))) ++ calls_from (subs all) (begun_count front) (subs gs)
            following b s =
                ap (λ us. calls_in (subs all) (begun_count front - 1) us ++ calls_from (subs all) (begun_count front) (subs (g ∷ gs))) (up_other g gs o.begun ∙ ap (λ b. cond b (g ∷ up_to_begin (bodies gs)) (up_to_begin (bodies gs))) s)
                ∙ ap (λ ss. calls_in (subs all) (begun_count front - 1) (cond b (g ∷ up_to_begin (bodies gs)) (up_to_begin (bodies gs))) ++ calls_from (subs all) (begun_count front) ss) (subs_other g gs o.begun)

            same_count : calls_left (front ++ g ∷ []) gs ≡ calls_left front gs
            same_count = ap (λ k. calls_in (subs all) (k - 1) (up_to_begin (bodies gs)) ++ calls_from (subs all) k (subs gs)) (begun_same front g o.begsr)

            made : call_at given front g ≡ made_call (subroutine_in (section_of front g)) (option_map (λ n. callee n (subs all)) (call_in g.statement))
            made = ap (made_call (subroutine_in (section_of front g))) (callee_at g h.0.named h.0.found)

            with_append : (n : ℕ) (o : Option (Option Name)) (xs ys : Calls) → with_call (subs all) n o (xs ++ ys) ≡ with_call (subs all) n o xs ++ ys
            with_append n None xs ys = refl
            with_append n (Some m) xs ys = refl

            by_control : (b : Bool) → is_subroutine g.control ≡ b → calls_after given front (g ∷ gs) ≡ calls_left front (g ∷ gs)
            by_control false s =
                ap (λ c. option_to_list (made_call c (option_and_then (called_subroutine given) (target_name g.statement))) ++ calls_after given (front ++ g ∷ []) gs) (outside_caller front (labels.begins_subroutine g) g.control s)
                ∙ rec ∙ same_count ∙ sym (following false s)
            by_control true s =
                let i = inside_here cards front g gs h.0 s o.begsr in
                let n = any_begun front i in
                let own : subroutine_in (section_of front g) ≡ Some (begun_count front - 1) = ap subroutine_in (own_section front g n.0 s o.begsr i n.1) ∙ ap Some (sym (less (begun_count front) n.0 n.1)) in
                ap (λ x. option_to_list x ++ calls_after given (front ++ g ∷ []) gs) (made ∙ ap (λ c. made_call c (option_map (λ n. callee n (subs all)) (call_in g.statement))) own)
                ∙ with_made (begun_count front - 1) (call_in g.statement) (calls_after given (front ++ g ∷ []) gs)
                ∙ ap (with_call (subs all) (begun_count front - 1) (call_in g.statement)) (rec ∙ same_count)
                ∙ with_append (begun_count front - 1) (call_in g.statement) (calls_in (subs all) (begun_count front - 1) (up_to_begin (bodies gs))) (calls_from (subs all) (begun_count front) (subs gs))
                ∙ sym (following true s)
              where
                less : (a b : ℕ) → a ≡ suc b → a - 1 ≡ b
                less a b e = omega (arith, e)

    pairs : ArePaired (bodies all) false
    pairs = are_paired cards [] all facts (λ e. absurd cc)

    -- the calls of the cards are those of the sections
    pub calls_are : calls all ≡ ps
    calls_are = calls_same [] all facts ∙ ap (λ us. calls_in (subs all) (0 - 1) us ++ calls_from (subs all) 0 (subs all)) (none_before (bodies all) pairs)

    abbrev IsForward : Call → Type 0
    IsForward p = reaches (calls all) p.1 p.0 ≡ false

    each_call : (front gs : List (Calculation Key)) → EachSplit (Facts cards) front gs → Each IsForward (calls_after given front gs)
    each_call front [] h = tt
    each_call front (g ∷ gs) h = by (call_at given front g) h.0.forward (each_call (front ++ g ∷ []) gs h.1)
      where
        by : (o : Option Call) → leads_back (calls all) o ≡ false → Each IsForward (calls_after given (front ++ g ∷ []) gs) → Each IsForward (option_to_list o ++ calls_after given (front ++ g ∷ []) gs)
        by None e r = r
        by (Some p) e r = (e, r)

    call_forward : (a b : ℕ) (qs : Calls) → IsCall qs a b → Each IsForward qs → reaches (calls all) b a ≡ false
    call_forward a b [] c h = absurd c
    call_forward a b (q ∷ qs) (inl c) h = ap (λ y. reaches (calls all) y a) (sym c.1) ∙ ap (reaches (calls all) q.1) (sym c.0) ∙ h.0
    call_forward a b (q ∷ qs) (inr c) h = call_forward a b qs c h.1

    forward : NoCallLeadsBack ps
    forward a b c back =
        let no = ap (λ cs. reaches cs b a) (sym calls_are) ∙ call_forward a b (calls all) (subst (λ cs. IsCall cs a b) (sym calls_are) c) (each_call [] all facts) in
        let yes = leads_tested ps b a back in
        absurd cc

    -- ---- plain sections

    found_all : Each (λ g. IsFound (subs all) g.statement) all
    found_all = each_split (λ g. IsFound (subs all) g.statement) (λ front g gs f. found_at g f.named f.found) [] all facts

    no_return : (d : Statement Key) (s : Bool) (rest : Bool) → s ≡ false → ((is_bracket d && not s) || rest) ≡ false → IsNoReturn d
    no_return (Ends l) s rest e h = let never = ap (λ b. not b || rest) (sym e) ∙ h in absurd cc
    no_return (Acts a) s rest e h = tt
    no_return WritesExceptions s rest e h = tt
    no_return (GoesTo l) s rest e h = tt
    no_return (Executes n) s rest e h = tt
    no_return (Marks l) s rest e h = tt
    no_return (Begins n) s rest e h = tt
    no_return Nothing s rest e h = tt

    not_sr : (test : ControlLevel → Bool) → ((c : ControlLevel) → test c ≡ true → is_subroutine c ≡ false) → Each (λ g. IsNoReturn g.statement) (of_control test all)
    not_sr test other = each_of (λ g. IsNoReturn g.statement) test all (each_split (λ g. test g.control ≡ true → IsNoReturn g.statement) (λ front g gs f t. no_return g.statement (is_subroutine g.control) _ (other g.control t) f.paired) [] all facts)

    detail_other : (c : ControlLevel) → is_detail c ≡ true → is_subroutine c ≡ false
    detail_other control.Detail e = refl
    detail_other (control.Total n) e = absurd cc
    detail_other control.Subroutine e = absurd cc
    detail_other control.And e = absurd cc
    detail_other control.Or e = absurd cc

    total_other : (c : ControlLevel) → is_total c ≡ true → is_subroutine c ≡ false
    total_other control.Detail e = absurd cc
    total_other (control.Total n) e = refl
    total_other control.Subroutine e = absurd cc
    total_other control.And e = absurd cc
    total_other control.Or e = absurd cc

    abbrev IsValidBody : Calculation Key → Type 0
    IsValidBody g = (g.level ≡ None) × ((is_endsr g.statement ≡ true → tests g.alternatives ≡ 0) × IsFound (subs all) g.statement)

    valid_bodies : Each IsValidBody (bodies all)
    valid_bodies = each_of IsValidBody is_subroutine all (each_split (λ g. is_subroutine g.control ≡ true → IsValidBody g) (λ front g gs f s. (f.waits s, (f.free, found_at g f.named f.found))) [] all facts)

    plain_bodies : (ss : List (Subroutine Key)) → Each (λ s. EndsWell s.body) ss → Each (λ s. Each IsValidBody s.body) ss → Each (λ (s : Subroutine Key). Each (λ g. HasGoal s.body g.statement) s.body) ss → ArePlainBodies (subs all) ss
    plain_bodies [] e b g = tt
    plain_bodies (s ∷ ss) e b g =
        let w = e.0 in
        let last = each_front IsValidBody w.front w.last (subst (Each IsValidBody) w.split b.0) in
        let goals = each_front (λ g. HasGoal s.body g.statement) w.front w.last (subst (Each (λ g. HasGoal s.body g.statement)) w.split g.0) in (
          record {
            front = w.front;
            last = w.last;
            label = w.label;
            split = w.split;
            returns = w.returns;
            waits = last.1.0;
            free = last.1.1.0 (ap is_endsr w.returns);
            goals = goals.0;
            found = founds s.body b.0;
          },
          plain_bodies ss e.1 b.1 g.1,
        )
      where
        founds : (gs : List (Calculation Key)) → Each IsValidBody gs → Each (λ g. IsFound (subs all) g.statement) gs
        founds [] h = tt
        founds (g ∷ gs) h = (h.0.1.1, founds gs h.1)

    pub plain : length (subs all) ≤ 100 → ArePlain (sections_of all)
    plain few = record {
      detail_ends = not_sr is_detail detail_other;
      total_ends = not_sr is_total total_other;
      detail_found = each_control (λ g. IsFound (subs all) g.statement) is_detail all found_all;
      total_found = each_control (λ g. IsFound (subs all) g.statement) is_total all found_all;
      bodies = plain_bodies (subs all) (all_end_well (bodies all) false pairs) (each_body IsValidBody (bodies all) valid_bodies) (goals_after [] all (at_first all) facts).1;
      forward = forward;
      few = few;
    }

-- F9, F10, F12, F13, F14 of cards, and F6's count, give plain sections
pub plain_of_rules : (cards : List SpecCard) → KeepsRule bad_calculation_columns cards → KeepsRule breaks_order cards → KeepsRule (lacks_target cards) cards → KeepsRule (leaves_its_section cards) cards → KeepsRule (calls_itself cards) cards
    → length (sections_of (calculations cards)).subroutines ≤ 100 → ArePlain (sections_of (calculations cards))
plain_of_rules cards f9 f12 f10 f13 f14 few = plain cards (each_fact cards f9 f12 f10 f13 f14) few

-- the same with F6's count: as many BEGSRs among SR cards
pub plain_of_counts : (cards : List SpecCard) → KeepsRule bad_calculation_columns cards → KeepsRule breaks_order cards → KeepsRule (lacks_target cards) cards → KeepsRule (leaves_its_section cards) cards → KeepsRule (calls_itself cards) cards
    → begun_count (calculations cards) ≤ 100 → ArePlain (sections_of (calculations cards))
plain_of_counts cards f9 f12 f10 f13 f14 few =
    let facts = each_fact cards f9 f12 f10 f13 f14 in
    plain cards facts (subst (λ n. n ≤ 100) (sym (subs_count cards [] (calculations cards) facts)) few)
