-- The phases after the selection, by what was kept before the record that was selected.
use Rattle.std.proofs.Common.{◌≡◌, ℕ, Bool, cond, ◌||◌, List, Option, None, Some, refl, ap, ◌∙◌, subst}
use Rattle.rpg_cycle.proofs.Cycling.{Test, by_totals}
use Rattle.rpg_cycle.specs.Doing.{Does, Beside, holding, under_way}
use Rattle.rpg_cycle_records.specs.Earlier.{Left, Selected, control_fields, file_at, last_of_file, match_value, or_before}
use Rattle.rpg_cycle_records.specs.Identifying.{same_file}
use Rattle.rpg_cycle_records.specs.Matching.{agrees}
use Rattle.rpg_cycle_records.specs.Waiting.{Inputs, finds_match, other_file, waiting_value, waiting_in}
use Rattle.rpg_cycle.specs.Ends.{PhaseEnd}
use Rattle.rpg_cycle_records.specs.Keeping.{renewed, renewed_by, selected_as}
use Rattle.rpg_cycle.specs.Phases.{detail_calculations, end_where_last, fill_fields, is_bypassed, output, overflow_lines, section, show_match, unless, ◌before◌}
use Rattle.rpg_cycle.specs.Staging.{after_selection}
use Rattle.rpg_program.specs.declared.input.InputFile.{InputFile}
use Rattle.rpg_program.specs.declared.input.InputFile.TheVariants.{Primary, Secondary}
use Rattle.rpg_machine.specs.Running.{Running, config_on}
use Rattle.rpg_machine.specs.declared.time.OutputTime.TheVariants as times
use Rattle.rpg_program.specs.Object.{Object}
use Rattle.rpg_program.specs.declared.section.Section.TheVariants as sections
use Rattle.rpg_paper.specs.Paper.{last_position_from}

-- what is kept beside the levels
kept_any : (p : Object) (t : Option ℕ) (text : List ℕ) (l : Left) → (renewed_by p t text l).any ≡ l.any
kept_any p None text l = refl
kept_any p (Some t) text l = refl

kept_control : (p : Object) (t : Option ℕ) (text : List ℕ) (l : Left) → (renewed_by p t text l).control ≡ l.control
kept_control p None text l = refl
kept_control p (Some t) text l = refl

-- the last value of the other file is as before
other_last : (g : InputFile) (v : Option (List ℕ)) (bytes : List (Option (List ℕ))) (l : Left) →
    last_of_file (record { any = l.any; control = l.control; bytes = bytes; primary = or_before l.primary (cond (same_file g Primary) v None); secondary = or_before l.secondary (cond (same_file g Secondary) v None) }) (other_file g)
    ≡ last_of_file l (other_file g)
other_last Primary v bytes l = refl
other_last Secondary v bytes l = refl

-- so the record's match is found where it was before
same_match : (p : Object) (t : ℕ) (text : List ℕ) (i : Inputs) (old : Left) → (let s : Selected = record { type = t; text = text } in
    finds_match p (renewed_by p (Some t) text old) i s ≡ finds_match p old i s)
same_match p t text i old =
    let s : Selected = record { type = t; text = text } in
    let other = other_file (file_at p s) in
    ap (λ v. agrees (match_value p s) (waiting_value p other (waiting_in i other)) || agrees (match_value p s) v)
    (other_last (file_at p s) (match_value p s) (renewed (control_fields p t) text 9 old.bytes) old)

match_of : (p : Object) (t : Option ℕ) (text : List ℕ) (i : Inputs) (now old : Left) → now ≡ renewed_by p t text old → (x : Selected) → selected_as t text ≡ Some x → finds_match p now i x ≡ finds_match p old i x
match_of p None text i now old h x e = cc
match_of p (Some t) text i now old h x e =
    let same : record { type = t; text = text } ≡ x = cc in
    subst (λ (y : Selected). finds_match p now i y ≡ finds_match p old i y) same
    (ap (λ (l : Left). finds_match p l i (record { type = t; text = text })) h ∙ same_match p t text i old)

-- by another test that agrees on the selected record
tested : (p : Object) (left : Left) (s u : Test) (a b : Running) (h k : Beside) (e : PhaseEnd) → ((x : Selected) → h.selected ≡ Some x → s h.inputs x ≡ u h.inputs x) →
    Does (after_selection p left s) a h e b k → Does (after_selection p left u) a h e b k
tested p left s u a b h k e agree d = record {
  program = d.program;
  following = λ previous l.
      let x = d.following previous l in record {
        out = x.out;
        phase = by_totals p left s u (under_way (config_on previous a.config) h) agree e (under_way (config_on (last_position_from previous x.out.lines) b.config) k) x.out x.phase;
        last = x.last;
        bytes = x.bytes;
      };
}

-- the phases after the selection with what was kept before the record
pub by_left : (p : Object) (t : Option ℕ) (text : List ℕ) (i : Inputs) (now old : Left) (a b : Running) (e : PhaseEnd) (k : Beside) → now ≡ renewed_by p t text old →
    Does (after_selection p now (finds_match p now)) a (holding i t text) e b k → Does (after_selection p old (finds_match p old)) a (holding i t text) e b k
by_left p t text i now old a b e k h d =
    let s = holding i t text in
    let F = λ (x y : Bool). unless (is_bypassed p x y) (section p sections.Total before output p times.Total)
    before end_where_last before overflow_lines p before show_match (finds_match p now) before fill_fields p before detail_calculations p in
    tested p old (finds_match p now) (finds_match p old) a b s k e (match_of p t text i now old h)
    (subst (λ (x : Bool). Does (F x old.control) a s e b k) (ap (λ (l : Left). l.any) h ∙ kept_any p t text old)
    (subst (λ (x : Bool). Does (F now.any x) a s e b k) (ap (λ (l : Left). l.control) h ∙ kept_control p t text old) d))
