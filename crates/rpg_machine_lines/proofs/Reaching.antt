-- The place that the fields of a line end at, and that nothing changes after it.
use Rattle.std.proofs.Common.{◌≡◌, ℕ, ◌+◌, ◌-◌, ◌≤◌, All, Bool, true, false, cond, max, List, [], ◌∷◌, ◌++◌, Option, None, Some, sym, ap, ◌∙◌, subst, arith, length, take, drop, replicate, nat_cmp, length-append, length-take-le}
use Rattle.std.proofs.lemmas.List.{drop-replicate, length-drop, length-replicate}
use Rattle.std.proofs.lemmas.List.Elements.{All-cons, All-head, All-nil, All-tail, All-weaker}
use Rattle.std.proofs.lemmas.Slice.{drop-append-drop}
use Rattle.std.specs.FinSet as sets
use Rattle.std.specs.List.{fold}
use Rattle.rpg_program.specs.Ends.{End, Fault, Continues}
use Rattle.rpg_program.specs.LineFaults.{AreRight, field_fault}
use Rattle.rpg_program.specs.Lines.{Draft, Drafted, drafted, laid, laid_over, unless_faulty, with_field}
use Rattle.rpg_program.specs.World.{three_hold}
use Rattle.rpg_program.specs.Entries.{position_of}
use Rattle.rpg_program.specs.declared.form.FieldForm.{FieldForm}
use Rattle.rpg_program.specs.declared.line.LineField.{LineField}
use Rattle.rpg_machine_lines.proofs.Fields.{right}
use Rattle.rpg_machine_lines.specs.Drafts.{draft_in, drafted_in, with_field_in}
use Rattle.rpg_machine_lines.specs.Plans.{reach_of}
use Rattle.rpg_machine_lines.specs.Ready.{IsBlankAfter}
use Rattle.rpg_program.specs.Constants.{word_at}
use Rattle.rpg_memory.specs.Memory.{Working, forms_in}

-- ---- the greatest end

-- fields of a line that all end at some place or before
abbrev pub EndWithin : ℕ → List (LineField ℕ) → Type 0
EndWithin n fs = All (λ (f : LineField ℕ). f.end ≤ n) fs

abbrev greatest : ℕ → List (LineField ℕ) → ℕ
greatest n fs = fold (λ a (f : LineField ℕ). max a f.end) n fs

start_within : (n : ℕ) (fs : List (LineField ℕ)) → n ≤ greatest n fs
start_within n [] = omega arith
start_within n (f ∷ fs) = let more = start_within (max n f.end) fs in omega (arith, more)

ends_within : (n : ℕ) (fs : List (LineField ℕ)) → EndWithin (greatest n fs) fs
ends_within n [] = All-nil (λ (f : LineField ℕ). f.end ≤ n)
ends_within n (f ∷ fs) =
    let start = start_within (max n f.end) fs in
    All-cons (λ (x : LineField ℕ). x.end ≤ greatest (max n f.end) fs) f fs (omega (arith, start)) (ends_within (max n f.end) fs)

greatest_within : (len n : ℕ) (fs : List (LineField ℕ)) → n ≤ len → EndWithin len fs → greatest n fs ≤ len
greatest_within len n [] low h = low
greatest_within len n (f ∷ fs) low h =
    let one : f.end ≤ len = All-head (λ (x : LineField ℕ). x.end ≤ len) f fs h in
    greatest_within len (max n f.end) fs (omega (arith, one, low)) (All-tail (λ (x : LineField ℕ). x.end ≤ len) f fs h)

-- each field ends there or before
pub ends_in_reach : (fs : List (LineField ℕ)) → EndWithin (reach_of fs) fs
ends_in_reach fs = ends_within 0 fs

-- with nothing wrong it is a place of the line
pub reach_in_line : (forms : ℕ → Option FieldForm) (words : ℕ → List ℕ) (len : ℕ) (fs : List (LineField ℕ)) → AreRight forms words len fs → reach_of fs ≤ len
reach_in_line forms words len fs h =
    greatest_within len 0 fs (omega arith)
    (All-weaker (λ (f : LineField ℕ). field_fault forms words len f ≡ None) (λ (f : LineField ℕ). f.end ≤ len) (λ f is. (right forms words len f is).end) fs h)

-- ---- after the greatest end

-- a part that is laid over a line, and leaves it as long as it was, changes nothing after its end
laid_after_reach : (text out part : List ℕ) (end n : ℕ) → out ≡ laid_over text end part → length out ≡ length text → end ≤ length text → end ≤ n → drop n out ≡ drop n text
unfolding laid_over
laid_after_reach text out part end n is long low high =
    let front = take (end - length part) text ++ part in
    let first : length (take (end - length part) text) ≡ end - length part = length-take-le (end - length part) text (omega (arith, low)) in
    let before : length front ≡ (end - length part) + length part = length-append (take (end - length part) text) part ∙ ap (λ m. m + length part) first in
    let whole : out ≡ front ++ drop end text = is in
    let all : length out ≡ length front + (length text - end) =
    ap length whole ∙ length-append front (drop end text) ∙ ap (λ m. length front + m) (length-drop end text) in
    let exact : length front ≡ end = omega (arith, before, all, long, low) in
    ap (drop n) whole ∙ drop-append-drop end text front n high exact

module _ (forms : ℕ → Option FieldForm) (words : ℕ → List ℕ) (d e : Draft nat_cmp) (r : End) (f : LineField ℕ) (n : ℕ) (long : length e.text ≡ length d.text)
    (low : f.end ≤ length d.text) (high : f.end ≤ n) where
  same_after_reach : (s : End) → drafted r e ≡ drafted s d → drop n e.text ≡ drop n d.text
  same_after_reach s h = ap (λ (x : Drafted nat_cmp). drop n x.draft.text) h

  laid_by : (o : Option ℕ) → drafted r e ≡ laid forms words d f o → drop n e.text ≡ drop n d.text
  laid_by None h = same_after_reach _ h
  laid_by (Some p) h = laid_after_reach d.text e.text _ f.end n (ap (λ (x : Drafted nat_cmp). x.draft.text) h) long low high

  faulty_by : (o : Option Fault) (p : Option ℕ) → drafted r e ≡ unless_faulty o d (laid forms words d f p) → drop n e.text ≡ drop n d.text
  faulty_by None p h = laid_by p h
  faulty_by (Some x) p h = same_after_reach _ h

  put_by : (b : Bool) (o : Option Fault) (p : Option ℕ) → drafted r e ≡ cond b (unless_faulty o d (laid forms words d f p)) (drafted Continues d) →
      drop n e.text ≡ drop n d.text
  put_by true o p h = faulty_by o p h
  put_by false o p h = same_after_reach _ h

  -- a field changes nothing after its end
  pub field_after_reach : (on : sets.FinSet nat_cmp) (len : ℕ) → drafted r e ≡ with_field forms words on len d f → drop n e.text ≡ drop n d.text
  unfolding with_field
  field_after_reach on len h = put_by (three_hold on f.conditions) (field_fault forms words len f) (position_of forms d.fields f.operand) h

-- the first of them changes nothing after that place
pub first_after_reach : (forms : ℕ → Option FieldForm) (words : ℕ → List ℕ) (len n : ℕ) (all fs : List (LineField ℕ)) (f : LineField ℕ) (w v : Working) (text out : List ℕ)
    (es more : List (ℕ × ℕ)) (r : End) → all ≡ f ∷ fs → AreRight forms words len all → EndWithin n all → length text ≡ len → length out ≡ length text →
    drafted_in r v out more ≡ with_field_in w text es f → drop n out ≡ drop n text
first_after_reach forms words len n all fs f w v text out es more r is ok ends long same h =
    let whole : LineField ℕ → Type 0 = λ x. field_fault forms words len x ≡ None in
    let within : LineField ℕ → Type 0 = λ x. x.end ≤ n in
    let low = (right forms words len f (All-head whole f fs (subst (All whole) is ok))).end in
    let high = All-head within f fs (subst (All within) is ends) in
    field_after_reach (forms_in w) (word_at w.program) (draft_in w text es) (draft_in v out more) r f n same (omega (arith, low, long)) high w.world.data.on (length text) h

-- a line that was blank is still blank after its fields
pub blank_after_reach : (fs gs : List (LineField ℕ)) (reach len : ℕ) (text out : List ℕ) → reach ≡ reach_of fs → gs ≡ fs → reach_of fs ≤ len → text ≡ replicate len 32 →
    length out ≡ length text → drop (reach_of gs) out ≡ drop (reach_of gs) text → IsBlankAfter reach out
blank_after_reach fs gs reach len text out is same low blank long following =
    let there : drop reach out ≡ drop reach text = subst (λ n. drop n out ≡ drop n text) (ap reach_of same ∙ sym is) following in
    let all : length out ≡ len = long ∙ ap length blank ∙ length-replicate len 32 in
    record {
      within = omega (arith, is, low, all);
      blank = there ∙ ap (drop reach) blank ∙ drop-replicate reach len 32 ∙ ap (λ n. replicate (n - reach) 32) (sym all);
    }
