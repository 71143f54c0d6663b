-- One record of a conversion.
use Rattle.std.proofs.Common.{◌≡◌, ℕ, zero, suc, ◌+◌, List, [], ◌++◌, length, take, drop, refl, sym, ap, subst, ◌∙◌, arith, Option, Some, None, unwrap_or, Result, Ok, Err}
use Rattle.std.proofs.KnownBytes.{Appends-nil, Appends-trans}
use Rattle.std.proofs.Math.Seq.{take-append-add}
use Rattle.std.proofs.lemmas.List.{take-append-le}
use Rattle.std.specs.Io.KnownBytes.{Appends}
use Rattle.std.proofs.Common.{append_assoc, length-append}
use Rattle.rpg_files.specs.Sending.{AppendsPrefix}
use Rattle.rpg_record_lines.specs.Conversions.{Conversion, EndsFull, HasConverted, IsConversion, Made, InputPlace, ConvertsUpTo, TakesStep, ConversionSettings, at_cut, at_made, beginning, conversion, conversion_from, counts_after, conversion_fault, finished_at, written_first, frame_stop, line_stop, max_converted, input_place_after, refused_at}
use Rattle.rpg_record_lines.specs.Cuts.{Cut, Finished, Refused, Whole, next_cut}
use Rattle.rpg_record_lines.specs.Inputs.{GivesFramed}
use Rattle.rpg_record_lines.specs.Outcomes.{IsLineFaultOf}
use Rattle.rpg_record_lines.specs.declared.conversion.ConversionFault.{ConversionFault}
use Rattle.rpg_record_lines.specs.declared.conversion.ConversionFault.TheVariants as stops
use Rattle.rpg_record_lines.specs.declared.conversion.Counts.{Counts}
use Rattle.rpg_record_lines.specs.declared.fault.LineFault.{LineFault}
use Rattle.rpg_record_lines.specs.declared.fault.LineFault.TheVariants as lines
use Rattle.rpg_record_lines.specs.declared.fault.RecordFault.{RecordFault}
use Rattle.rpg_record_lines.specs.declared.fault.RecordFault.TheVariants as faults
use Rattle.rpg_record_lines.specs.declared.frames.FrameFault.{FrameFault}
use Rattle.rpg_record_lines.specs.declared.frames.FrameFault.TheVariants as frames
use Rattle.rpg_record_lines.specs.declared.frames.Framing.{Framing}
use Rattle.rpg_record_lines.specs.declared.frames.Next.TheVariants as nexts
use Rattle.rpg_record_lines.specs.declared.input.InputFault.TheVariants as inputs

-- ---- what the definition says of the next record

at_end : (way : ConversionSettings) (left : ℕ) (p : InputPlace) (input : List ℕ) → next_cut way.framing way.most input ≡ Finished → conversion_from way left p input ≡ finished_at p
unfolding conversion_from
at_end way zero p input e = ap (λ (c : Cut). at_cut p c (λ used r. refused_at p faults.TooMany)) e
at_end way (suc left) p input e =
    ap (λ (c : Cut). at_cut p c (λ used r. at_made p (way.text_of r) (λ text. written_first (unwrap_or text []) (conversion_from way left (input_place_after p used text) (drop used input))))) e

at_refused : (way : ConversionSettings) (left : ℕ) (p : InputPlace) (input : List ℕ) (fault : RecordFault) → next_cut way.framing way.most input ≡ Refused fault
    → conversion_from way left p input ≡ refused_at p fault
unfolding conversion_from
at_refused way zero p input fault e = ap (λ (c : Cut). at_cut p c (λ used r. refused_at p faults.TooMany)) e
at_refused way (suc left) p input fault e =
    ap (λ (c : Cut). at_cut p c (λ used r. at_made p (way.text_of r) (λ text. written_first (unwrap_or text []) (conversion_from way left (input_place_after p used text) (drop used input))))) e

at_whole : (way : ConversionSettings) (left used : ℕ) (p : InputPlace) (input r : List ℕ) (text : Made) → next_cut way.framing way.most input ≡ Whole used r → way.text_of r ≡ text
    → conversion_from way (suc left) p input ≡ at_made p text (λ text. written_first (unwrap_or text []) (conversion_from way left (input_place_after p used text) (drop used input)))
unfolding conversion_from
at_whole way left used p input r text e f =
    ap (λ (c : Cut). at_cut p c (λ used r. at_made p (way.text_of r) (λ text. written_first (unwrap_or text []) (conversion_from way left (input_place_after p used text) (drop used input))))) e
    ∙ ap (λ (m : Made). at_made p m (λ text. written_first (unwrap_or text []) (conversion_from way left (input_place_after p used text) (drop used input)))) f

at_full : (way : ConversionSettings) (used : ℕ) (p : InputPlace) (input r : List ℕ) → next_cut way.framing way.most input ≡ Whole used r → conversion_from way 0 p input ≡ refused_at p faults.TooMany
unfolding conversion_from
at_full way used p input r e = ap (λ (c : Cut). at_cut p c (λ used r. refused_at p faults.TooMany)) e

-- ---- what was written

nothing : (c : Conversion) (a : Option (List ℕ)) → AppendsPrefix a a c.written
nothing c a = (0, (omega arith, Appends-nil a))

at_finished : (c : Conversion) (p : InputPlace) (a : Option (List ℕ)) → c ≡ finished_at p → IsConversion c a a (Ok p.counts)
at_finished c p a e = (ap (λ (x : Conversion). x.ending) e, subst (Appends a a) (sym (ap (λ (x : Conversion). x.written) e)) (Appends-nil a))

at_fault : (c : Conversion) (p : InputPlace) (a : Option (List ℕ)) (fault : RecordFault) → c ≡ refused_at p fault → IsConversion c a a (Err (conversion_fault p fault))
at_fault c p a fault e = (ap (λ (x : Conversion). x.ending) e, subst (Appends a a) (sym (ap (λ (x : Conversion). x.written) e)) (Appends-nil a))

part_of : (c d : Conversion) (text : List ℕ) (a b : Option (List ℕ)) → c ≡ written_first text d → AppendsPrefix a b text → AppendsPrefix a b c.written
part_of c d text a b e part =
    subst (AppendsPrefix a b) (sym (ap (λ (x : Conversion). x.written) e))
    (part.0, (omega (arith, part.1.0, length-append text d.written), subst (Appends a b) (sym (take-append-le part.0 text d.written part.1.0)) part.1.1))

-- ---- a step

pub taken_end : (way : ConversionSettings) (p : InputPlace) (old new : Option (List ℕ)) (q s : ℕ) (r : List ℕ) (a : Option (List ℕ)) → GivesFramed way.framing way.most old new p.offset q r (Ok nexts.End)
    → TakesStep way p old new s a a (Ok None)
taken_end way p None new q s r a g = tt
taken_end way p (Some input) new q s r a g = λ left. at_finished (conversion_from way (suc left) p input) p a (at_end way (suc left) p input g)

taken_fault : (way : ConversionSettings) (p : InputPlace) (old new : Option (List ℕ)) (q s : ℕ) (r : List ℕ) (a : Option (List ℕ)) (fault : FrameFault) → GivesFramed way.framing way.most old new p.offset q r (Err fault)
    → TakesStep way p old new s a a (Err (frame_stop p fault))
taken_fault way p None new q s r a fault g = tt
taken_fault way p (Some input) new q s r a (frames.Record fault) g = λ left. at_fault (conversion_from way (suc left) p input) p a fault (at_refused way (suc left) p input fault g)
taken_fault way p (Some input) new q s r a (frames.Input inputs.Device) g = λ left. nothing (conversion_from way (suc left) p input) a
taken_fault way p (Some input) new q s r a (frames.Input inputs.NoMemory) g = λ left. nothing (conversion_from way (suc left) p input) a

taken_refused : (way : ConversionSettings) (p : InputPlace) (old new : Option (List ℕ)) (q s : ℕ) (r : List ℕ) (a : Option (List ℕ)) (fault : LineFault)
    → GivesFramed way.framing way.most old new p.offset q r (Ok nexts.Record) → IsLineFaultOf (way.text_of r) fault → TakesStep way p old new s a a (Err (line_stop p fault))
taken_refused way p None new q s r a fault g f = tt
taken_refused way p (Some input) new q s r a (lines.Record fault) g f =
    λ left. at_fault (conversion_from way (suc left) p input) p a fault (at_whole way left g.0 p input r (Err fault) g.1 f)
taken_refused way p (Some input) new q s r a lines.NoMemory g f = λ left. nothing (conversion_from way (suc left) p input) a

taken_dropped : (way : ConversionSettings) (p : InputPlace) (old new : Option (List ℕ)) (q : ℕ) (r : List ℕ) (a : Option (List ℕ)) → GivesFramed way.framing way.most old new p.offset q r (Ok nexts.Record)
    → way.text_of r ≡ Ok None → TakesStep way p old new q a a (Ok (Some (counts_after p.counts None)))
taken_dropped way p None new q r a g f = tt
taken_dropped way p (Some input) new q r a g f = (
  [],
  drop g.0 input,
  g.2,
  Appends-nil a,
  λ left. at_whole way left g.0 p input r (Ok None) g.1 f
      ∙ ap (λ (n : ℕ). written_first [] (conversion_from way left (record { counts = counts_after p.counts None; offset = n }) (drop g.0 input))) (sym g.3),
)

pub taken_part : (way : ConversionSettings) (p : InputPlace) (old new : Option (List ℕ)) (q s : ℕ) (r text : List ℕ) (a b : Option (List ℕ)) → GivesFramed way.framing way.most old new p.offset q r (Ok nexts.Record)
    → way.text_of r ≡ Ok (Some text) → AppendsPrefix a b text → TakesStep way p old new s a b (Err stops.Write)
taken_part way p None new q s r text a b g f part = tt
taken_part way p (Some input) new q s r text a b g f part =
    λ left. part_of (conversion_from way (suc left) p input) (conversion_from way left (input_place_after p g.0 (Some text)) (drop g.0 input)) text a b (at_whole way left g.0 p input r (Ok (Some text)) g.1 f) part

taken_text : (way : ConversionSettings) (p : InputPlace) (old new : Option (List ℕ)) (q : ℕ) (r text : List ℕ) (a b : Option (List ℕ)) → GivesFramed way.framing way.most old new p.offset q r (Ok nexts.Record)
    → way.text_of r ≡ Ok (Some text) → Appends a b text → TakesStep way p old new q a b (Ok (Some (counts_after p.counts (Some text))))
taken_text way p None new q r text a b g f sent = tt
taken_text way p (Some input) new q r text a b g f sent = (
  text,
  drop g.0 input,
  g.2,
  sent,
  λ left. at_whole way left g.0 p input r (Ok (Some text)) g.1 f
      ∙ ap (λ (n : ℕ). written_first text (conversion_from way left (record { counts = counts_after p.counts (Some text); offset = n }) (drop g.0 input))) (sym g.3),
)

-- ---- as many records as there may be

pub last_end : (framing : Framing) (most : ℕ) (p : InputPlace) (old new : Option (List ℕ)) (q : ℕ) (r : List ℕ) → GivesFramed framing most old new p.offset q r (Ok nexts.End)
    → EndsFull framing most p old (Ok p.counts)
last_end framing most p None new q r g = tt
last_end framing most p (Some input) new q r g =
    λ way e f u. at_finished (conversion_from way 0 p input) p u (at_end way 0 p input (ap (λ (x : Framing). next_cut x way.most input) e ∙ ap (λ (n : ℕ). next_cut framing n input) f ∙ g))

last_record : (framing : Framing) (most : ℕ) (p : InputPlace) (old new : Option (List ℕ)) (q : ℕ) (r : List ℕ) → GivesFramed framing most old new p.offset q r (Ok nexts.Record)
    → EndsFull framing most p old (Err (conversion_fault p faults.TooMany))
last_record framing most p None new q r g = tt
last_record framing most p (Some input) new q r g =
    λ way e f u. at_fault (conversion_from way 0 p input) p u faults.TooMany (at_full way g.0 p input r (ap (λ (x : Framing). next_cut x way.most input) e ∙ ap (λ (n : ℕ). next_cut framing n input) f ∙ g.1))

last_fault : (framing : Framing) (most : ℕ) (p : InputPlace) (old new : Option (List ℕ)) (q : ℕ) (r : List ℕ) (fault : FrameFault) → GivesFramed framing most old new p.offset q r (Err fault)
    → EndsFull framing most p old (Err (frame_stop p fault))
last_fault framing most p None new q r fault g = tt
last_fault framing most p (Some input) new q r (frames.Record fault) g =
    λ way e f u. at_fault (conversion_from way 0 p input) p u fault (at_refused way 0 p input fault (ap (λ (x : Framing). next_cut x way.most input) e ∙ ap (λ (n : ℕ). next_cut framing n input) f ∙ g))
last_fault framing most p (Some input) new q r (frames.Input inputs.Device) g = λ way e f u. nothing (conversion_from way 0 p input) u
last_fault framing most p (Some input) new q r (frames.Input inputs.NoMemory) g = λ way e f u. nothing (conversion_from way 0 p input) u

-- ---- a step after others

more_written : (text more : List ℕ) (a b w : Option (List ℕ)) → Appends a b text → AppendsPrefix b w more → AppendsPrefix a w (text ++ more)
more_written text more a b w sent part = (
  length text + part.0,
  (
    omega (arith, part.1.0, length-append text more),
    subst (Appends a w) (sym (take-append-add text more part.0)) (Appends-trans a b w text (take part.0 more) sent part.1.1),
  ),
)

then_ends : (c d : Conversion) (text : List ℕ) (a b w : Option (List ℕ)) (result : Result Counts ConversionFault) → c ≡ written_first text d → Appends a b text → IsConversion d b w result
    → IsConversion c a w result
then_ends c d text a b w (Ok counts) e sent h =
    (ap (λ (x : Conversion). x.ending) e ∙ h.0, subst (Appends a w) (sym (ap (λ (x : Conversion). x.written) e)) (Appends-trans a b w text d.written sent h.1))
then_ends c d text a b w (Err (stops.Record n o fault)) e sent h =
    (ap (λ (x : Conversion). x.ending) e ∙ h.0, subst (Appends a w) (sym (ap (λ (x : Conversion). x.written) e)) (Appends-trans a b w text d.written sent h.1))
then_ends c d text a b w (Err stops.Read) e sent h = subst (AppendsPrefix a w) (sym (ap (λ (x : Conversion). x.written) e)) (more_written text d.written a b w sent h)
then_ends c d text a b w (Err stops.Write) e sent h = subst (AppendsPrefix a w) (sym (ap (λ (x : Conversion). x.written) e)) (more_written text d.written a b w sent h)
then_ends c d text a b w (Err stops.NoMemory) e sent h = subst (AppendsPrefix a w) (sym (ap (λ (x : Conversion). x.written) e)) (more_written text d.written a b w sent h)

-- a conversion that ends so, and wrote this
abbrev ending_as : Conversion → List ℕ → Conversion
ending_as d text = record { written = text; ending = d.ending }

pub reached_none : (way : ConversionSettings) (a u : Option (List ℕ)) → ConvertsUpTo way a a max_converted beginning u u
unfolding conversion
reached_none way None u = tt
reached_none way (Some input) u = ([], input, refl, Appends-nil u, refl)

pub reached_more : (way : ConversionSettings) (a b c u v w : Option (List ℕ)) (left offset : ℕ) (p : InputPlace) (counts : Counts) → ConvertsUpTo way a b (suc left) p u v → TakesStep way p b c offset v w (Ok (Some counts))
    → ConvertsUpTo way a c left (record { counts = counts; offset = offset }) u w
reached_more way None b c u v w left offset p counts g s = tt
reached_more way (Some input) b c u v w left offset p counts g s =
    let step = subst (λ (x : Option (List ℕ)). TakesStep way p x c offset v w (Ok (Some counts))) g.2 s in (
      g.0 ++ step.0,
      step.1,
      step.2,
      Appends-trans u v w g.0 step.0 g.3 step.3,
      g.4 ∙ ap (written_first g.0) (step.4 left) ∙ joined g.0 step.0 (conversion_from way left (record { counts = counts; offset = offset }) step.1),
    )
  where
    joined : (text more : List ℕ) (d : Conversion) → written_first text (written_first more d) ≡ written_first (text ++ more) d
    joined text more d = ap (ending_as d) (sym (append_assoc text more d.written))

pub reached_end : (way : ConversionSettings) (a b c u v w : Option (List ℕ)) (left offset : ℕ) (p : InputPlace) → ConvertsUpTo way a b (suc left) p u v → TakesStep way p b c offset v w (Ok None)
    → HasConverted way a u w (Ok p.counts)
reached_end way None b c u v w left offset p g s = tt
reached_end way (Some input) b c u v w left offset p g s =
    let step = subst (λ (x : Option (List ℕ)). TakesStep way p x c offset v w (Ok None)) g.2 s in
    then_ends (conversion way input) (conversion_from way (suc left) p g.1) g.0 u v w (Ok p.counts) g.4 g.3 (step left)

pub reached_fault : (way : ConversionSettings) (a b c u v w : Option (List ℕ)) (left offset : ℕ) (p : InputPlace) (fault : ConversionFault) → ConvertsUpTo way a b (suc left) p u v
    → TakesStep way p b c offset v w (Err fault) → HasConverted way a u w (Err fault)
reached_fault way None b c u v w left offset p fault g s = tt
reached_fault way (Some input) b c u v w left offset p fault g s =
    let step = subst (λ (x : Option (List ℕ)). TakesStep way p x c offset v w (Err fault)) g.2 s in
    then_ends (conversion way input) (conversion_from way (suc left) p g.1) g.0 u v w (Err fault) g.4 g.3 (step left)

pub reached_full : (way : ConversionSettings) (a b u v : Option (List ℕ)) (p : InputPlace) (result : Result Counts ConversionFault) → ConvertsUpTo way a b 0 p u v → EndsFull way.framing way.most p b result
    → HasConverted way a u v result
reached_full way None b u v p result g s = tt
reached_full way (Some input) b u v p result g s =
    let last = subst (λ (x : Option (List ℕ)). EndsFull way.framing way.most p x result) g.2 s in
    then_ends (conversion way input) (conversion_from way 0 p g.1) g.0 u v v result g.4 g.3 (last way refl refl v)

-- ---- the whole

pub reached_start : (way : ConversionSettings) (a u : Option (List ℕ)) (o : ℕ) → o ≡ 0 → ConvertsUpTo way a a 10000000 (record { counts = record { records = 0; dropped = 0 }; offset = o }) u u
reached_start way a u o e = subst (λ (n : ℕ). ConvertsUpTo way a a 10000000 (record { counts = record { records = 0; dropped = 0 }; offset = n }) u u) (sym e) (reached_none way a u)

-- nothing was read
pub unread : (way : ConversionSettings) (input w : Option (List ℕ)) → HasConverted way input w w (Err stops.NoMemory)
unread way None w = tt
unread way (Some input) w = nothing (conversion way input) w

-- ---- the same by what the code has

pub fault_taken : (way : ConversionSettings) (p : InputPlace) (old new : Option (List ℕ)) (q s o : ℕ) (r : List ℕ) (a : Option (List ℕ)) (fault : FrameFault) (stop : ConversionFault) → o ≡ p.offset
    → stop ≡ frame_stop (record { counts = p.counts; offset = o }) fault → GivesFramed way.framing way.most old new p.offset q r (Err fault) → TakesStep way p old new s a a (Err stop)
fault_taken way p old new q s o r a fault stop e f g =
    subst (λ (x : ConversionFault). TakesStep way p old new s a a (Err x)) (sym (f ∙ ap (λ (n : ℕ). frame_stop (record { counts = p.counts; offset = n }) fault) e))
    (taken_fault way p old new q s r a fault g)

pub refused_taken : (way : ConversionSettings) (p : InputPlace) (old new : Option (List ℕ)) (q s o : ℕ) (r : List ℕ) (a : Option (List ℕ)) (fault : LineFault) (stop : ConversionFault) → o ≡ p.offset
    → stop ≡ line_stop (record { counts = p.counts; offset = o }) fault → GivesFramed way.framing way.most old new p.offset q r (Ok nexts.Record) → IsLineFaultOf (way.text_of r) fault
    → TakesStep way p old new s a a (Err stop)
refused_taken way p old new q s o r a fault stop e f g h =
    subst (λ (x : ConversionFault). TakesStep way p old new s a a (Err x)) (sym (f ∙ ap (λ (n : ℕ). line_stop (record { counts = p.counts; offset = n }) fault) e))
    (taken_refused way p old new q s r a fault g h)

pub dropped_taken : (way : ConversionSettings) (p : InputPlace) (old new : Option (List ℕ)) (q : ℕ) (r : List ℕ) (a : Option (List ℕ)) (counts : Counts) → counts ≡ counts_after p.counts None
    → GivesFramed way.framing way.most old new p.offset q r (Ok nexts.Record) → way.text_of r ≡ Ok None → TakesStep way p old new q a a (Ok (Some counts))
dropped_taken way p old new q r a counts e g h =
    subst (λ (x : Counts). TakesStep way p old new q a a (Ok (Some x))) (sym e) (taken_dropped way p old new q r a g h)

pub text_taken : (way : ConversionSettings) (p : InputPlace) (old new : Option (List ℕ)) (q : ℕ) (r text : List ℕ) (a b : Option (List ℕ)) (counts : Counts) → counts ≡ counts_after p.counts (Some text)
    → GivesFramed way.framing way.most old new p.offset q r (Ok nexts.Record) → way.text_of r ≡ Ok (Some text) → Appends a b text → TakesStep way p old new q a b (Ok (Some counts))
text_taken way p old new q r text a b counts e g h sent =
    subst (λ (x : Counts). TakesStep way p old new q a b (Ok (Some x))) (sym e) (taken_text way p old new q r text a b g h sent)

pub full_record : (framing : Framing) (most o : ℕ) (p : InputPlace) (old new : Option (List ℕ)) (q : ℕ) (r : List ℕ) (stop : ConversionFault) → o ≡ p.offset
    → stop ≡ conversion_fault (record { counts = p.counts; offset = o }) faults.TooMany → GivesFramed framing most old new p.offset q r (Ok nexts.Record) → EndsFull framing most p old (Err stop)
full_record framing most o p old new q r stop e f g =
    subst (λ (x : ConversionFault). EndsFull framing most p old (Err x)) (sym (f ∙ ap (λ (n : ℕ). conversion_fault (record { counts = p.counts; offset = n }) faults.TooMany) e))
    (last_record framing most p old new q r g)

pub full_fault : (framing : Framing) (most o : ℕ) (p : InputPlace) (old new : Option (List ℕ)) (q : ℕ) (r : List ℕ) (fault : FrameFault) (stop : ConversionFault) → o ≡ p.offset
    → stop ≡ frame_stop (record { counts = p.counts; offset = o }) fault → GivesFramed framing most old new p.offset q r (Err fault) → EndsFull framing most p old (Err stop)
full_fault framing most o p old new q r fault stop e f g =
    subst (λ (x : ConversionFault). EndsFull framing most p old (Err x)) (sym (f ∙ ap (λ (n : ℕ). frame_stop (record { counts = p.counts; offset = n }) fault) e))
    (last_fault framing most p old new q r fault g)

-- one more record
pub reached_next : (way more : ConversionSettings) (a b c u v w : Option (List ℕ)) (left next offset : ℕ) (p : InputPlace) (counts : Counts) → more ≡ way → left ≡ suc next → ConvertsUpTo way a b left p u v
    → TakesStep way p b c offset v w (Ok (Some counts)) → ConvertsUpTo more a c next (record { counts = counts; offset = offset }) u w
reached_next way more a b c u v w left next offset p counts e f g s =
    subst (λ (x : ConversionSettings). ConvertsUpTo x a c next (record { counts = counts; offset = offset }) u w) (sym e)
    (reached_more way a b c u v w next offset p counts (subst (λ (n : ℕ). ConvertsUpTo way a b n p u v) f g) s)

pub reached_last : (way first : ConversionSettings) (a b c u v w : Option (List ℕ)) (left next offset : ℕ) (p : InputPlace) → way ≡ first → left ≡ suc next → ConvertsUpTo way a b left p u v
    → TakesStep way p b c offset v w (Ok None) → HasConverted first a u w (Ok p.counts)
reached_last way first a b c u v w left next offset p e f g s =
    subst (λ (x : ConversionSettings). HasConverted x a u w (Ok p.counts)) e (reached_end way a b c u v w next offset p (subst (λ (n : ℕ). ConvertsUpTo way a b n p u v) f g) s)

pub reached_stop : (way first : ConversionSettings) (a b c u v w : Option (List ℕ)) (left next offset : ℕ) (p : InputPlace) (fault : ConversionFault) → way ≡ first → left ≡ suc next → ConvertsUpTo way a b left p u v
    → TakesStep way p b c offset v w (Err fault) → HasConverted first a u w (Err fault)
reached_stop way first a b c u v w left next offset p fault e f g s =
    subst (λ (x : ConversionSettings). HasConverted x a u w (Err fault)) e (reached_fault way a b c u v w next offset p fault (subst (λ (n : ℕ). ConvertsUpTo way a b n p u v) f g) s)

pub reached_all : (way first : ConversionSettings) (a b u v : Option (List ℕ)) (left : ℕ) (p : InputPlace) (result : Result Counts ConversionFault) → way ≡ first → left ≡ 0 → ConvertsUpTo way a b left p u v
    → EndsFull way.framing way.most p b result → HasConverted first a u v result
reached_all way first a b u v left p result e f g s =
    subst (λ (x : ConversionSettings). HasConverted x a u v result) e (reached_full way a b u v p result (subst (λ (n : ℕ). ConvertsUpTo way a b n p u v) f g) s)
