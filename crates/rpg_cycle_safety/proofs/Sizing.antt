-- Lines and outputs write at most 10,000 bytes for each step that they weigh.
use Rattle.std.proofs.Common.{◌≡◌, ℕ, ◌+◌, ◌-◌, ◌*◌, ◌≤◌, Bool, true, false, cond, List, [], ◌∷◌, ◌++◌, map, length, Option, refl, sym, ap, ◌∙◌, subst, arith, length-append, length-take, nat_cmp}
use Rattle.std.proofs.lemmas.List.{length-replicate}
use Rattle.std.proofs.lemmas.List.Elements.{All-head, All-tail}
use Rattle.std.specs.List.{suffix_len}
use Rattle.std.specs.Prelude.{All}
use Rattle.rpg_program.proofs.Putting.{disk-append, end_from-lines}
use Rattle.rpg_program.specs.Effect.{Effect, Leaves, go_on, then_go, unless_wrong}
use Rattle.rpg_program.specs.Ended.{Ended, on_data}
use Rattle.rpg_program.specs.Ends.{End, Fault, Continues, Halt, Wrong}
use Rattle.rpg_program.specs.Forms.{form_at}
use Rattle.rpg_program.specs.Lines.{Draft, Line, assembled, blank_line, blanked_all, is_due, line_out, lines_out, one_out, put_on, write_line_out, spaced_before, where_due, with_fields}
use Rattle.rpg_program.specs.Put.{disk_bytes}
use Rattle.rpg_program.specs.Weights.{line_weight, lines_weight}
use Rattle.rpg_program.specs.World.{Data, World}
use Rattle.rpg_program.specs.declared.line.File.{File}
use Rattle.rpg_program.specs.declared.line.File.TheVariants.{Printer, Disk}
use Rattle.rpg_program.specs.declared.line.Pass.{Pass}
use Rattle.rpg_program.specs.declared.line.Spacing.{Spacing}
use Rattle.rpg_program.specs.declared.line.Time.{Time}
use Rattle.rpg_cycle_safety.proofs.Laying.{assembled_long}
use Rattle.rpg_cycle_safety.proofs.Moving.{after_up, before_up, way_short}
use Rattle.rpg_machine_lines.proofs.Moving.{short_spacing}
use Rattle.rpg_machine_lines.specs.Ready.{IsShort}
use Rattle.rpg_program.specs.declared.rows.Overflow.{Overflow}
use Rattle.rpg_cycle_safety.proofs.Printing.{Draws, one_keeps}
use Rattle.rpg_cycle_safety.specs.Holding.{Holds}
use Rattle.rpg_cycle_safety.specs.Measuring.{StandsNear, bytes_of_step}
use Rattle.rpg_machine_lines.proofs.Passages.{none_due}
use Rattle.rpg_machine_lines.specs.Passages.{may_count}
use Rattle.rpg_program.specs.Constants.{word_at}
use Rattle.rpg_program.specs.Kept.{IsProgram}
use Rattle.rpg_program.specs.Object.{LineRow, Object, file_length, program_line}
use Rattle.rpg_paper.proofs.Papers.{bytes_from-append}
use Rattle.rpg_paper.specs.Form.{page_or_1}
use Rattle.rpg_paper.specs.Paper.{IsPage, Placed, Position, bytes_from, last_position_from, way}
use Rattle.rpg_text.specs.Texts.{is_blank, trimmed}
use Rattle.rpg_verify_rules.specs.Sound.{IsSoundLine}

-- ---- bytes

-- of lines after the line placed last, and of records
abbrev pub bytes_in : Option Position → List Placed → List (List ℕ) → ℕ
bytes_in previous lines records = length (bytes_from previous lines) + length (disk_bytes records)

pub bytes_both : (previous : Option Position) (xs ys : List Placed) (rs ss : List (List ℕ)) →
    bytes_in previous (xs ++ ys) (rs ++ ss) ≡ bytes_in previous xs rs + bytes_in (last_position_from previous xs) ys ss
bytes_both previous xs ys rs ss =
    let one : length (bytes_from previous (xs ++ ys)) ≡ length (bytes_from previous xs) + length (bytes_from (last_position_from previous xs) ys) =
    ap (λ (l : List ℕ). length l) (bytes_from-append previous xs ys) ∙ length-append (bytes_from previous xs) (bytes_from (last_position_from previous xs) ys) in
    let two : length (disk_bytes (rs ++ ss)) ≡ length (disk_bytes rs) + length (disk_bytes ss) =
    ap (λ (l : List ℕ). length l) (disk-append rs ss) ∙ length-append (disk_bytes rs) (disk_bytes ss) in
    omega (arith, one, two)

pub near_both : (previous : Option Position) (xs ys : List Placed) (here : Position) →
    StandsNear (last_position_from (last_position_from previous xs) ys) here → StandsNear (last_position_from previous (xs ++ ys)) here
near_both previous xs ys here near = subst (λ (o : Option Position). StandsNear o here) (sym (end_from-lines previous xs ys)) near

-- ---- effects

-- no more is output than that many steps may output, and the form stands near the line placed last
pub record PutsFew (previous : Option Position) (n : ℕ) (e : Effect nat_cmp) : Type 0 where
  pub few : bytes_in previous e.lines e.records ≤ n * bytes_of_step
  pub near : StandsNear (last_position_from previous e.lines) e.world.paper.here

pub few_more : (previous : Option Position) (n m : ℕ) (e : Effect nat_cmp) → n ≤ m → PutsFew previous n e → PutsFew previous m e
few_more previous n m e l h = let few = h.few in record { few = omega (arith, few, l); near = h.near }

-- nothing is output
pub leaves_few : (previous : Option Position) (w : World nat_cmp) → StandsNear previous w.paper.here → PutsFew previous 0 (Leaves w)
leaves_few previous w near = record { few = omega arith; near = near }

-- what is done to the data puts nothing out, and the form stays where it stands
pub data_few : (previous : Option Position) (f : Data nat_cmp → Ended nat_cmp) (w : World nat_cmp) → StandsNear previous w.paper.here → PutsFew previous 0 (on_data f w)
data_few previous f w near = record { few = omega arith; near = near }

both_few : (previous : Option Position) (n m : ℕ) (ending : End) (e : Effect nat_cmp) (go : World nat_cmp → Effect nat_cmp) → PutsFew previous n e →
    PutsFew (last_position_from previous e.lines) m (go e.world) → PutsFew previous (n + m) (go_on ending e go)
both_few previous n m Continues e go h k =
    let both = bytes_both previous e.lines (go e.world).lines e.records (go e.world).records in
    let one = h.few in
    let two = k.few in
    record { few = omega (arith, both, one, two); near = near_both previous e.lines (go e.world).lines (go e.world).world.paper.here k.near }
both_few previous n m (Halt j) e go h k = few_more previous n (n + m) e (omega arith) h
both_few previous n m (Wrong f) e go h k = few_more previous n (n + m) e (omega arith) h

-- the one, and then the other
pub then_few : (previous : Option Position) (n m : ℕ) (e : Effect nat_cmp) (go : World nat_cmp → Effect nat_cmp) → PutsFew previous n e →
    PutsFew (last_position_from previous e.lines) m (go e.world) → PutsFew previous (n + m) (then_go e go)
then_few previous n m e go h k = both_few previous n m e.ending e go h k

-- ---- a line that is output

trimmed_short : (text : List ℕ) → length (trimmed text) ≤ length text
trimmed_short text = let is = length-take (length text - suffix_len is_blank text) text in omega (arith, is)

placed_few : (previous : Option Position) (at : Position) (text : List ℕ) → length (way previous at) ≤ 116 → length text ≤ 132 →
    length (way previous at ++ trimmed text ++ []) ≤ 9999
placed_few previous at text short few =
    let one = length-append (way previous at ++ trimmed text) [] in
    let two = length-append (way previous at) (trimmed text) in
    let three = trimmed_short text in
    omega (arith, one, two, three, short, few)

record_few : (text : List ℕ) → length text ≤ 9999 → length (text ++ 10 ∷ []) ≤ 10000
record_few text few = let both = length-append text (10 ∷ []) in omega (arith, both, few)

-- as long as a line of that file may be
abbrev limit_of : File → ℕ
limit_of Printer = 132
limit_of Disk = 9999

put_few : (overflow : Overflow) → IsPage overflow.page → (file : File) (s : Spacing) (text : List ℕ) (previous : Option Position) (w : World nat_cmp) → IsShort s →
    length text ≤ limit_of file → StandsNear previous w.paper.here → PutsFew previous 1 (put_on overflow file s text w)
unfolding put_on
put_few overflow is Printer s text previous w short few near =
    let v = spaced_before overflow s w in
    let up = before_up overflow is s (page_or_1 previous + 2) w short (record { line = near.line; page = near.page }) in
    let pages = up.page in
    let at = v.paper.here in
    let far = way_short previous at (record { line = up.line; page = omega (arith, pages) }) in
    let bytes = placed_few previous at text far few in
    let following = after_up overflow is s at.page v short (record { line = up.line; page = omega arith }) in
    record { few = omega (arith, bytes); near = record { line = following.line; page = following.page } }
put_few overflow is Disk s text previous w short few near = let bytes = record_few text few in record { few = omega (arith, bytes); near = near }

module _ (p : Object) where
  out_few : (overflow : Overflow) → IsPage overflow.page → (l : Line ℕ) (previous : Option Position) (w : World nat_cmp) (ending : End) (d : Draft nat_cmp) → IsShort l.spacing →
      length d.text ≤ limit_of l.file → StandsNear previous w.paper.here → PutsFew previous 1 (write_line_out (form_at p.fields) (word_at p) overflow l w ending d)
  out_few overflow is l previous w Continues d short few near =
      let put = put_on overflow l.file l.spacing d.text (with_fields d.fields w) in
      let one = put_few overflow is l.file l.spacing d.text previous (with_fields d.fields w) short few near in
      let v : World nat_cmp = with_fields (blanked_all d.to_blank put.world.data.fields) put.world in
      then_few previous 1 0 put (λ v. Leaves (with_fields (blanked_all d.to_blank v.data.fields) v)) one (leaves_few (last_position_from previous put.lines) v one.near)
  out_few overflow is l previous w (Halt k) d short few near = record { few = omega arith; near = near }
  out_few overflow is l previous w (Wrong f) d short few near = record { few = omega arith; near = near }

  within_limit : (kept : IsProgram p) (file : File) → file_length p file ≤ limit_of file
  within_limit kept Printer = kept.widest_line
  within_limit kept Disk = kept.longest_disk_record

  module _ (kept : IsProgram p) where
    line_few : (l : LineRow) (previous : Option Position) (w : World nat_cmp) → IsSoundLine p l → Holds p w.data → StandsNear previous w.paper.here →
        PutsFew previous 1 (line_out (form_at p.fields) (word_at p) p.overflow (program_line p l) w)
    unfolding line_out
    line_few l previous w sound h near =
        let len = file_length p l.file in
        let start = blank_line len w in
        let done = assembled (form_at p.fields) (word_at p) w.data.on len l.fields start in
        let draws : Draws p w.data (record { ending = Continues; draft = start }) = record { ending = tt; fields = h; blanks = λ k e low. absurd (omega (arith, low)) } in
        let blanks : length start.text ≡ len = length-replicate len 32 in
        let long = assembled_long p kept len w.data l.fields start sound.fields draws blanks in
        let limit = within_limit kept l.file in
        let short = short_spacing p.overflow.page len l.spacing kept.page sound.line in
        let out = out_few p.overflow kept.page (program_line p l) previous w done.ending done.draft short (omega (arith, long, limit)) near in
        subst (λ (o : Option Fault). PutsFew previous 1 (unless_wrong o w (write_line_out (form_at p.fields) (word_at p) p.overflow (program_line p l) w done.ending done.draft))) (sym sound.line) out

    asked_few : (b : Bool) (n : ℕ) (e : Effect nat_cmp) (previous : Option Position) (w : World nat_cmp) → PutsFew previous n e → StandsNear previous w.paper.here →
        PutsFew previous n (where_due (form_at p.fields) (word_at p) b e w)
    asked_few true n e previous w h near = h
    asked_few false n e previous w h near = few_more previous 0 n (Leaves w) (omega arith) (leaves_few previous w near)

    -- at this passage no lines are output but those that are meant
    module _ (pass : Pass) (is_meant : Time → Bool) (others : (time : Time) → is_meant time ≡ false → may_count time pass ≡ false) where
      one_by : (b : Bool) (l : LineRow) (previous : Option Position) (w : World nat_cmp) → is_meant l.time ≡ b → IsSoundLine p l → Holds p w.data → StandsNear previous w.paper.here →
          PutsFew previous (cond b (line_weight (program_line p l)) 0) (one_out (form_at p.fields) (word_at p) p.overflow pass (program_line p l) w)
      unfolding one_out
      one_by true l previous w meant sound h near =
          let line = line_out (form_at p.fields) (word_at p) p.overflow (program_line p l) w in
          asked_few (is_due p.overflow.indicator pass w.data.on l.time l.alternatives) (line_weight (program_line p l)) line previous w
          (few_more previous 1 (line_weight (program_line p l)) line (omega arith) (line_few l previous w sound h near)) near
      one_by false l previous w meant sound h near =
          let line = line_out (form_at p.fields) (word_at p) p.overflow (program_line p l) w in
          subst (λ (b : Bool). PutsFew previous 0 (where_due (form_at p.fields) (word_at p) b line w)) (sym (none_due p.overflow.indicator pass w.data.on l.time l.alternatives (others l.time meant)))
          (leaves_few previous w near)

      -- the lines of a passage
      pub lines_few : (ls : List LineRow) (previous : Option Position) (w : World nat_cmp) → All (IsSoundLine p) ls → Holds p w.data → StandsNear previous w.paper.here →
          PutsFew previous (lines_weight is_meant (map (program_line p) ls)) (lines_out (form_at p.fields) (word_at p) p.overflow pass (map (program_line p) ls) w)
      unfolding lines_out
      lines_few [] previous w sound h near = leaves_few previous w near
      lines_few (l ∷ ls) previous w sound h near =
          let one = one_out (form_at p.fields) (word_at p) p.overflow pass (program_line p l) w in
          let first = All-head (IsSoundLine p) l ls sound in
          let few = one_by (is_meant l.time) l previous w refl first h near in
          then_few previous (cond (is_meant l.time) (line_weight (program_line p l)) 0) (lines_weight is_meant (map (program_line p) ls)) one
          (lines_out (form_at p.fields) (word_at p) p.overflow pass (map (program_line p) ls)) few
          (lines_few ls (last_position_from previous one.lines) one.world (All-tail (IsSoundLine p) l ls sound) (one_keeps p kept pass l w first h).holds few.near)
