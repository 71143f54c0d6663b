-- The code of sound sections breaks none of the rules on targets, calls, returns and levels.
use Rattle.std.proofs.Common.{◌≡◌, ℕ, zero, suc, ◌+◌, ◌-◌, ◌≤◌, ◌<◌, Bool, true, false, cond, ◌||◌, not, List, [], ◌∷◌, ◌++◌, length, map, Option, Some, slice_get, refl, sym, ap, ◌∙◌, subst, arith, length-append}
use Rattle.std.specs.Prelude.{nat_le}
use Rattle.std.specs.List.{list_all, list_any}
use Rattle.std.proofs.lemmas.Bool.{and_from, le-leb, lt-ltb, not_from_true, or_from}
use Rattle.rpg_program.specs.declared.operation.Instruction.{Instruction}
use Rattle.rpg_program.specs.declared.operation.Instruction.TheVariants as made
use Rattle.rpg_program.specs.Object.{Object}
use Rattle.rpg_program.specs.Sections.{body_of, first_in, first_place, has_end, level_in, level_of, place_after, section_instructions}
use Rattle.rpg_program.specs.declared.section.Section.{Section}
use Rattle.rpg_program.specs.declared.section.Section.TheVariants as section
use Rattle.rpg_verify_rules.proofs.Kept.{NoneTrue}
use Rattle.rpg_text.specs.Texts.{is_between}
use Rattle.rpg_verify_rules.specs.PlaceRules.{bodies_judged, calls_higher, ends_in_return, has_stray_return, is_body, is_off_level, is_own, is_return, is_return_if_any, place_breaks, places_judged, judged_after_detail, section_judged, stays_inside, subroutines_judged, with_first}
use Rattle.rpg_verify_rules.specs.declared.rule.PlaceRule.{PlaceRule}
use Rattle.rpg_verify_rules.specs.declared.rule.PlaceRule.TheVariants.{V21, V22}
use Rattle.rpg_compile_program.proofs.Control.{code_each, code_none, code_own, last_return, stays, stays_before}
use Rattle.rpg_compile_program.proofs.Counts.{LeadsWithin, Within, code_append, code_length, code_within, label_before, label_inside}
use Rattle.rpg_compile_program.proofs.Each.{each_always, each_append, each_map, each_passes, none_broken, none_in_both, none_passes}
use Rattle.rpg_cards.specs.Statements.{Acts, Begins, Calculation, Statement, Ends, Executes, GoesTo, Marks, Nothing, WritesExceptions}
use Rattle.rpg_cards.specs.Keys.{Key, Name}
use Rattle.rpg_cards.specs.Plain.{Each, HasGoal, defines_subroutine}
use Rattle.rpg_cards.specs.Sections.{Sections, Subroutine, callee}
use Rattle.rpg_compile_program.specs.Code.{code_from, label_place, calculations_code, sizes, step_code, subroutines_code, waits}
use Rattle.rpg_compile_program.proofs.Sound.{AreSound, AreSoundBodies, CallsUp, IsSoundBody}
use Rattle.rpg_compile_program.specs.Whole.{IsCodeOf, called_number}
use Rattle.rpg_cards.specs.Sections.{is_same_name}

-- ---- lists

last_of : (xs : List (Instruction ℕ)) (i : Instruction ℕ) → slice_get (xs ++ i ∷ []) (length (xs ++ i ∷ []) - 1) ≡ Some i
last_of xs i = let n = length-append xs (i ∷ []) in let e : length (xs ++ i ∷ []) - 1 ≡ length xs = omega arith in ap (slice_get (xs ++ i ∷ [])) e ∙ at_end xs
  where
    at_end : (ys : List (Instruction ℕ)) → slice_get (ys ++ i ∷ []) (length ys) ≡ Some i
    at_end [] = refl
    at_end (y ∷ ys) = at_end ys

-- the number of a subroutine that is there
pub callee_there : (n : Option Name) (ss : List (Subroutine Key)) → defines_subroutine n ss ≡ true → callee n ss < length ss
callee_there n [] h = absurd cc
callee_there n (s ∷ ss) h = by_name (is_same_name n s.name) h (callee_there n ss)
  where
    by_name : (b : Bool) → (b || defines_subroutine n ss) ≡ true → (defines_subroutine n ss ≡ true → callee n ss < length ss) → cond b 0 (suc (callee n ss)) < suc (length ss)
    by_name true h r = omega arith
    by_name false h r = let l = r h in omega arith

module _ (number : Key → ℕ) (level : ℕ → ℕ) (s : Sections Key) (p : Object) where
  -- ---- targets

  section_length : (own first : ℕ) (gs : List (Calculation Key)) → length (calculations_code number (called_number s) own first gs) ≡ sizes gs
  unfolding calculations_code
  section_length own first gs = code_length number (λ l. label_place l gs first) (called_number s) own first gs

  leads_inside : (own first : ℕ) (gs : List (Calculation Key)) (x : Statement Key) → LeadsWithin number (λ l. label_place l gs first) (called_number s) own first (first + sizes gs) x
  leads_inside own first gs (GoesTo l) = label_inside l gs first
  leads_inside own first gs (Acts a) = tt
  leads_inside own first gs WritesExceptions = tt
  leads_inside own first gs (Executes n) = tt
  leads_inside own first gs (Marks l) = tt
  leads_inside own first gs (Begins l) = tt
  leads_inside own first gs (Ends l) = tt
  leads_inside own first gs Nothing = tt

  section_within : (own first : ℕ) (gs : List (Calculation Key)) → Each (Within first (first + sizes gs)) (calculations_code number (called_number s) own first gs)
  unfolding calculations_code
  section_within own first gs =
      code_within number (λ l. label_place l gs first) (called_number s) own first (first + sizes gs) first gs (omega arith) (omega arith)
      (each_always (λ g. LeadsWithin number (λ l. label_place l gs first) (called_number s) own first (first + sizes gs) g.statement) gs (λ g. leads_inside own first gs g.statement))

  leads_before : (own first : ℕ) (front : List (Calculation Key)) (last : Calculation Key) (x : Statement Key) → HasGoal (front ++ last ∷ []) x →
      LeadsWithin number (λ l. label_place l (front ++ last ∷ []) first) (called_number s) own first (first + sizes front) x
  leads_before own first front last (GoesTo l) h = ((label_inside l (front ++ last ∷ []) first).0, label_before l front last first h)
  leads_before own first front last (Acts a) h = tt
  leads_before own first front last WritesExceptions h = tt
  leads_before own first front last (Executes n) h = tt
  leads_before own first front last (Marks l) h = tt
  leads_before own first front last (Begins l) h = tt
  leads_before own first front last (Ends l) h = tt
  leads_before own first front last Nothing h = tt

  -- the code of a sound body: what stands before its RET
  front_code : ℕ → ℕ → List (Calculation Key) → Calculation Key → List (Instruction ℕ)
  front_code own first front last = code_from number (λ l. label_place l (front ++ last ∷ []) first) (called_number s) own first front

  body_code : (own first : ℕ) (x : Subroutine Key) (b : IsSoundBody s.subroutines level own x) → calculations_code number (called_number s) own first x.body ≡ front_code own first b.front b.last ++ made.Return own ∷ []
  unfolding calculations_code front_code code_from
  body_code own first x b =
      let place = λ (l : Option Name). label_place l (b.front ++ b.last ∷ []) first in
      let whole : calculations_code number (called_number s) own first x.body ≡ calculations_code number (called_number s) own first (b.front ++ b.last ∷ []) = ap (calculations_code number (called_number s) own first) b.split in
      let parts = code_append number place (called_number s) own first b.front (b.last ∷ []) in
      let ends = last_return number place (called_number s) own (first + sizes b.front) b.last b.label b.returns b.waits b.free in
      whole ∙ parts ∙ ap (λ xs. code_from number place (called_number s) own first b.front ++ (xs ++ [])) ends

  body_within : (own first : ℕ) (x : Subroutine Key) (b : IsSoundBody s.subroutines level own x) → Each (Within first (first + sizes b.front)) (calculations_code number (called_number s) own first x.body)
  unfolding front_code
  body_within own first x b =
      let place = λ (l : Option Name). label_place l (b.front ++ b.last ∷ []) first in
      let goals : Each (λ g. HasGoal (b.front ++ b.last ∷ []) g.statement) b.front = subst (λ (gs : List (Calculation Key)). Each (λ g. HasGoal gs g.statement) b.front) b.split b.goals in
      let leads = each_map (λ (g : Calculation Key). HasGoal (b.front ++ b.last ∷ []) g.statement) (λ g. LeadsWithin number place (called_number s) own first (first + sizes b.front) g.statement) b.front (λ g h. leads_before own first b.front b.last g.statement h) goals in
      subst (λ xs. Each (Within first (first + sizes b.front)) xs) (sym (body_code own first x b))
      (each_append (Within first (first + sizes b.front)) (front_code own first b.front b.last) (made.Return own ∷ [])
      (code_within number place (called_number s) own first (first + sizes b.front) first b.front (omega arith) (omega arith) leads) (tt, tt))

  body_size : (own first : ℕ) (x : Subroutine Key) (b : IsSoundBody s.subroutines level own x) → length (calculations_code number (called_number s) own first x.body) ≡ sizes b.front + 1
  unfolding front_code
  body_size own first x b =
      let e = ap length (body_code own first x b) in
      let f = length-append (front_code own first b.front b.last) (made.Return own ∷ []) in
      let c = code_length number (λ l. label_place l (b.front ++ b.last ∷ []) first) (called_number s) own first b.front in
      omega arith

  -- ---- rows of subroutines

  row_level : (own first : ℕ) (ss : List (Subroutine Key)) (n : ℕ) → n < length ss → level_in (slice_get (subroutines_code number (called_number s) level own first ss) n) ≡ level (own + n)
  unfolding subroutines_code
  row_level own first [] n h = absurd (omega arith)
  row_level own first (x ∷ ss) zero h = ap level (omega arith)
  row_level own first (x ∷ ss) (suc n) h = row_level (suc own) (first + sizes x.body) ss n (omega arith) ∙ ap level (omega arith)

  pub level_there : IsCodeOf number level s p → (n : ℕ) → n < length s.subroutines → level_of p (section.Subroutine n) ≡ level n
  level_there c n h = ap (λ rows. level_in (slice_get rows n)) c.subroutines ∙ row_level 0 (sizes s.detail + sizes s.total) s.subroutines n h ∙ ap level (omega arith)

  -- ---- calls

  step_calls : IsCodeOf number level s p → (sec : Section) (own low first : ℕ) (gs : List (Calculation Key)) (x : Statement Key) → level_of p sec ≡ low → CallsUp s.subroutines level low x →
      Each (λ i. calls_higher p sec i ≡ true) (step_code number (λ l. label_place l gs first) (called_number s) own x)
  unfolding step_code
  step_calls c sec own low first gs (Acts a) e h = (refl, tt)
  step_calls c sec own low first gs WritesExceptions e h = (refl, tt)
  step_calls c sec own low first gs (GoesTo l) e h = (refl, tt)
  step_calls c sec own low first gs (Marks l) e h = tt
  step_calls c sec own low first gs (Begins l) e h = tt
  step_calls c sec own low first gs (Ends l) e h = (refl, tt)
  step_calls c sec own low first gs Nothing e h = tt
  step_calls c sec own low first gs (Executes n) e h =
      let up = level_there c (callee n s.subroutines) (callee_there n s.subroutines h.0) in
      let higher = h.1 in
      (lt-ltb (level_of p sec) (level_of p (section.Subroutine (callee n s.subroutines))) (omega arith), tt)

  section_calls : IsCodeOf number level s p → (sec : Section) (own low first : ℕ) (gs : List (Calculation Key)) → level_of p sec ≡ low → Each (λ g. CallsUp s.subroutines level low g.statement) gs →
      Each (λ i. calls_higher p sec i ≡ true) (calculations_code number (called_number s) own first gs)
  unfolding calculations_code
  section_calls c sec own low first gs e h =
      code_each number (λ l. label_place l gs first) (called_number s) own (λ i. calls_higher p sec i ≡ true) (λ i t. t.calls p sec) first gs
      (each_map (λ (g : Calculation Key). CallsUp s.subroutines level low g.statement) (λ g. Each (λ i. calls_higher p sec i ≡ true) (step_code number (λ l. label_place l gs first) (called_number s) own g.statement)) gs (λ g up. step_calls c sec own low first gs g.statement e up) h)

  -- ---- V21 and V22, section by section

  abbrev Passes : PlaceRule → Section → List (Instruction ℕ) → Type 0
  Passes r sec code = Each (λ i. place_breaks r p sec i ≡ false) code

  targets_pass : (sec : Section) (first end : ℕ) (code : List (Instruction ℕ)) → first_place p sec ≡ first → place_after p sec ≡ end → has_end sec ≡ true → Each (Within first end) code → Passes V21 sec code
  unfolding place_breaks
  targets_pass sec first end code f e h w = each_map (Within first end) (λ i. not (stays_inside p sec i) ≡ false) code (λ i x. not_from_true (stays_inside p sec i) (stays p sec first end i f e h x)) w

  body_targets_pass : (sec : Section) (first high : ℕ) (code : List (Instruction ℕ)) → first_place p sec ≡ first → high < place_after p sec → Each (Within first high) code → Passes V21 sec code
  unfolding place_breaks
  body_targets_pass sec first high code f e w = each_map (Within first high) (λ i. not (stays_inside p sec i) ≡ false) code (λ i x. not_from_true (stays_inside p sec i) (stays_before p sec first high i f e x)) w

  calls_pass : (sec : Section) (code : List (Instruction ℕ)) → Each (λ i. calls_higher p sec i ≡ true) code → Passes V22 sec code
  unfolding place_breaks
  calls_pass sec code w = each_map (λ (i : Instruction ℕ). calls_higher p sec i ≡ true) (λ i. not (calls_higher p sec i) ≡ false) code (λ i x. not_from_true (calls_higher p sec i) x) w

  -- ---- all subroutines from one on

  -- the rows of these stand in the program, and begin at a place
  record StandsAt (own first : ℕ) (ss : List (Subroutine Key)) : Type 0 where
    rows : (n : ℕ) → slice_get p.subroutines (own + n) ≡ slice_get (subroutines_code number (called_number s) level own first ss) n
    firsts : (n : ℕ) → first_place p (section.Subroutine (own + n)) ≡ first_in first (subroutines_code number (called_number s) level own first ss) n

  stands_next : (own first : ℕ) (x : Subroutine Key) (ss : List (Subroutine Key)) → StandsAt own first (x ∷ ss) → StandsAt (suc own) (first + sizes x.body) ss
  unfolding subroutines_code
  stands_next own first x ss h = record {
    rows = λ n. let e : suc own + n ≡ own + suc n = omega arith in ap (slice_get p.subroutines) e ∙ h.rows (suc n);
    firsts = λ n. let e : suc own + n ≡ own + suc n = omega arith in ap (λ k. first_place p (section.Subroutine k)) e ∙ h.firsts (suc n) ∙ ap (λ k. first_in (first + k) (subroutines_code number (called_number s) level (suc own) (first + sizes x.body) ss) n) (section_length own first x.body);
  }

  stands : IsCodeOf number level s p → StandsAt 0 (sizes s.detail + sizes s.total) s.subroutines
  unfolding first_place
  stands c =
      let a = ap length c.detail ∙ section_length 0 0 s.detail in
      let b = ap length c.total ∙ section_length 0 (sizes s.detail) s.total in
      let e : length p.detail + length p.total ≡ sizes s.detail + sizes s.total = omega arith in
      record {
        rows = λ n. let z : 0 + n ≡ n = omega arith in ap (slice_get p.subroutines) z ∙ ap (λ rows. slice_get rows n) c.subroutines;
        firsts = λ n. let z : 0 + n ≡ n = omega arith in ap (λ k. first_in (length p.detail + length p.total) p.subroutines k) z ∙ ap (λ k. first_in k p.subroutines n) e ∙ ap (λ rows. first_in (sizes s.detail + sizes s.total) rows n) c.subroutines;
      }

  module _ (own first : ℕ) (x : Subroutine Key) (ss : List (Subroutine Key)) (at : StandsAt own first (x ∷ ss)) where
    sub : Section
    sub = section.Subroutine own

    code_here : section_instructions p sub ≡ calculations_code number (called_number s) own first x.body
    unfolding sub subroutines_code
    code_here = let z : own ≡ own + 0 = omega arith in ap body_of (ap (slice_get p.subroutines) z ∙ at.rows 0)

    first_here : first_place p sub ≡ first
    unfolding sub subroutines_code
    first_here = let z : own ≡ own + 0 = omega arith in ap (λ k. first_place p (section.Subroutine k)) z ∙ at.firsts 0

    end_here : place_after p sub ≡ first + length (calculations_code number (called_number s) own first x.body)
    unfolding place_after
    end_here = let a = first_here in let b = ap length code_here in omega arith

    level_here : level_of p sub ≡ level own
    unfolding sub subroutines_code
    level_here = let z : own ≡ own + 0 = omega arith in ap level_in (ap (slice_get p.subroutines) z ∙ at.rows 0)

    body_passes : IsCodeOf number level s p → IsSoundBody s.subroutines level own x → (Passes V21 sub (calculations_code number (called_number s) own first x.body)) × Passes V22 sub (calculations_code number (called_number s) own first x.body)
    body_passes c b =
        let n = body_size own first x b in
        let e = end_here in (
          body_targets_pass sub first (first + sizes b.front) (calculations_code number (called_number s) own first x.body) first_here (omega arith) (body_within own first x b),
          calls_pass sub (calculations_code number (called_number s) own first x.body) (section_calls c sub own (level own) first x.body level_here b.calls),
        )

  -- where calls and targets are right in each part, they are in the whole
  subroutines_pass : IsCodeOf number level s p → (own first : ℕ) (ss : List (Subroutine Key)) → StandsAt own first ss → AreSoundBodies s.subroutines level own ss
      → NoneTrue (subroutines_judged V21 p own (subroutines_code number (called_number s) level own first ss)) × NoneTrue (subroutines_judged V22 p own (subroutines_code number (called_number s) level own first ss))
  unfolding subroutines_code sub
  subroutines_pass c own first [] at b = (λ k e. absurd cc, λ k e. absurd cc)
  subroutines_pass c own first (x ∷ ss) at b =
      let here = body_passes own first x ss at c b.0 in
      let rest = subroutines_pass c (suc own) (first + sizes x.body) ss (stands_next own first x ss at) b.1 in
      let code = calculations_code number (called_number s) own first x.body in
      let next : suc own ≡ own + 1 = omega arith in (
        none_in_both (map (place_breaks V21 p (section.Subroutine own)) code) (subroutines_judged V21 p (own + 1) (subroutines_code number (called_number s) level (suc own) (first + sizes x.body) ss))
            (none_broken (place_breaks V21 p (section.Subroutine own)) code here.0) (subst (λ n. NoneTrue (subroutines_judged V21 p n (subroutines_code number (called_number s) level (suc own) (first + sizes x.body) ss))) next rest.0),
        none_in_both (map (place_breaks V22 p (section.Subroutine own)) code) (subroutines_judged V22 p (own + 1) (subroutines_code number (called_number s) level (suc own) (first + sizes x.body) ss))
            (none_broken (place_breaks V22 p (section.Subroutine own)) code here.1) (subst (λ n. NoneTrue (subroutines_judged V22 p n (subroutines_code number (called_number s) level (suc own) (first + sizes x.body) ss))) next rest.1),
      )

  -- ---- V21

  detail_end : IsCodeOf number level s p → place_after p section.Detail ≡ 0 + sizes s.detail
  unfolding place_after first_place
  detail_end c = ap (λ n. 0 + n) (ap length c.detail ∙ section_length 0 0 s.detail)

  total_first : IsCodeOf number level s p → first_place p section.Total ≡ sizes s.detail
  unfolding first_place
  total_first c = ap length c.detail ∙ section_length 0 0 s.detail

  total_end : IsCodeOf number level s p → place_after p section.Total ≡ sizes s.detail + sizes s.total
  unfolding place_after
  total_end c = let a = total_first c in let b = ap length c.total ∙ section_length 0 (sizes s.detail) s.total in omega arith

  detail_first : first_place p section.Detail ≡ 0
  unfolding first_place
  detail_first = refl

  pub targets_kept : IsCodeOf number level s p → AreSound s level → NoneTrue (places_judged V21 p)
  targets_kept c h =
      let d = targets_pass section.Detail 0 (0 + sizes s.detail) (calculations_code number (called_number s) 0 0 s.detail) detail_first (detail_end c) refl (section_within 0 0 s.detail) in
      let t = targets_pass section.Total (sizes s.detail) (sizes s.detail + sizes s.total) (calculations_code number (called_number s) 0 (sizes s.detail) s.total) (total_first c) (total_end c) refl (section_within 0 (sizes s.detail) s.total) in
      let u = (subroutines_pass c 0 (sizes s.detail + sizes s.total) s.subroutines (stands c) h.bodies).0 in
      none_in_both (section_judged V21 p section.Detail) (judged_after_detail V21 p)
      (subst (λ code. NoneTrue (map (place_breaks V21 p section.Detail) code)) (sym c.detail) (none_broken (place_breaks V21 p section.Detail) (calculations_code number (called_number s) 0 0 s.detail) d))
      (none_in_both (section_judged V21 p section.Total) (subroutines_judged V21 p 0 p.subroutines)
      (subst (λ code. NoneTrue (map (place_breaks V21 p section.Total) code)) (sym c.total) (none_broken (place_breaks V21 p section.Total) (calculations_code number (called_number s) 0 (sizes s.detail) s.total) t))
      (subst (λ rows. NoneTrue (subroutines_judged V21 p 0 rows)) (sym c.subroutines) u))

  -- ---- V22

  pub calls_kept : IsCodeOf number level s p → AreSound s level → NoneTrue (places_judged V22 p)
  calls_kept c h =
      let d = calls_pass section.Detail (calculations_code number (called_number s) 0 0 s.detail) (section_calls c section.Detail 0 0 0 s.detail refl h.detail_calls) in
      let t = calls_pass section.Total (calculations_code number (called_number s) 0 (sizes s.detail) s.total) (section_calls c section.Total 0 0 (sizes s.detail) s.total refl h.total_calls) in
      let u = (subroutines_pass c 0 (sizes s.detail + sizes s.total) s.subroutines (stands c) h.bodies).1 in
      none_in_both (section_judged V22 p section.Detail) (judged_after_detail V22 p)
      (subst (λ code. NoneTrue (map (place_breaks V22 p section.Detail) code)) (sym c.detail) (none_broken (place_breaks V22 p section.Detail) (calculations_code number (called_number s) 0 0 s.detail) d))
      (none_in_both (section_judged V22 p section.Total) (subroutines_judged V22 p 0 p.subroutines)
      (subst (λ code. NoneTrue (map (place_breaks V22 p section.Total) code)) (sym c.total) (none_broken (place_breaks V22 p section.Total) (calculations_code number (called_number s) 0 (sizes s.detail) s.total) t))
      (subst (λ rows. NoneTrue (subroutines_judged V22 p 0 rows)) (sym c.subroutines) u))

  -- ---- V23

  body_ends : (own first : ℕ) (x : Subroutine Key) → IsSoundBody s.subroutines level own x → is_body own (calculations_code number (called_number s) own first x.body) ≡ true
  unfolding calculations_code
  body_ends own first x b =
      and_from (list_all (is_own own) (calculations_code number (called_number s) own first x.body)) (ends_in_return (calculations_code number (called_number s) own first x.body))
      (each_passes (is_own own) (calculations_code number (called_number s) own first x.body) (code_own number (λ l. label_place l x.body first) (called_number s) own first x.body))
      (ap ends_in_return (body_code own first x b) ∙ ap is_return_if_any (last_of (front_code own first b.front b.last) (made.Return own)))

  bodies_end : (own first : ℕ) (ss : List (Subroutine Key)) → AreSoundBodies s.subroutines level own ss → NoneTrue (bodies_judged own (subroutines_code number (called_number s) level own first ss))
  unfolding subroutines_code
  bodies_end own first [] b = λ k e. absurd cc
  bodies_end own first (x ∷ ss) b =
      let next : suc own ≡ own + 1 = omega arith in
      let here = not_from_true (is_body own (calculations_code number (called_number s) own first x.body)) (body_ends own first x b.0) in
      let rest = subst (λ n. NoneTrue (bodies_judged n (subroutines_code number (called_number s) level (suc own) (first + sizes x.body) ss))) next (bodies_end (suc own) (first + sizes x.body) ss b.1) in
      none_in_both (not (is_body own (calculations_code number (called_number s) own first x.body)) ∷ []) (bodies_judged (own + 1) (subroutines_code number (called_number s) level (suc own) (first + sizes x.body) ss)) (one_false (not (is_body own (calculations_code number (called_number s) own first x.body))) here) rest
    where
      one_false : (b : Bool) → b ≡ false → NoneTrue (b ∷ [])
      one_false b is zero e = cc
      one_false b is (suc k) e = cc

  no_stray : IsCodeOf number level s p → AreSound s level → has_stray_return p ≡ false
  unfolding calculations_code
  no_stray c h =
      or_from (list_any is_return p.detail) (list_any is_return p.total)
      (ap (list_any is_return) c.detail ∙ none_passes is_return (calculations_code number (called_number s) 0 0 s.detail) (code_none number (λ l. label_place l s.detail 0) (called_number s) 0 0 s.detail h.detail_ends))
      (ap (list_any is_return) c.total ∙ none_passes is_return (calculations_code number (called_number s) 0 (sizes s.detail) s.total) (code_none number (λ l. label_place l s.total (sizes s.detail)) (called_number s) 0 (sizes s.detail) s.total h.total_ends))

  with_none : (b : Bool) (bs : List Bool) → b ≡ false → NoneTrue bs → NoneTrue (with_first b bs)
  with_none b [] e h zero f = cc
  with_none b [] e h (suc k) f = cc
  with_none b (x ∷ xs) e h zero f = h zero (ap (λ y. Some (y || x)) (sym e) ∙ f)
  with_none b (x ∷ xs) e h (suc k) f = h (suc k) f

  pub returns_kept : IsCodeOf number level s p → AreSound s level → NoneTrue (with_first (has_stray_return p) (bodies_judged 0 p.subroutines))
  returns_kept c h = with_none (has_stray_return p) (bodies_judged 0 p.subroutines) (no_stray c h) (subst (λ rows. NoneTrue (bodies_judged 0 rows)) (sym c.subroutines) (bodies_end 0 (sizes s.detail + sizes s.total) s.subroutines h.bodies))

  -- ---- V24

  levels_within : ((n : ℕ) → (1 ≤ level n) × (level n ≤ 100)) → (own first : ℕ) (ss : List (Subroutine Key)) → NoneTrue (map is_off_level (subroutines_code number (called_number s) level own first ss))
  unfolding subroutines_code
  levels_within h own first [] k e = absurd cc
  levels_within h own first (x ∷ ss) zero e =
      let w = h own in
      let valid : is_between 1 100 (level own) ≡ true = and_from (nat_le 1 (level own)) (nat_le (level own) 100) (le-leb 1 (level own) w.0) (le-leb (level own) 100 w.1) in
      let no = not_from_true (is_between 1 100 (level own)) valid in
      cc
  levels_within h own first (x ∷ ss) (suc k) e = levels_within h (suc own) (first + sizes x.body) ss k e

  pub levels_kept : IsCodeOf number level s p → ((n : ℕ) → (1 ≤ level n) × (level n ≤ 100)) → NoneTrue (map is_off_level p.subroutines)
  levels_kept c h = subst (λ rows. NoneTrue (map is_off_level rows)) (sym c.subroutines) (levels_within h 0 (sizes s.detail + sizes s.total) s.subroutines)
