-- A waiting record is selected.
use Rattle.std.proofs.Common.{◌≡◌, ◌⊎◌, inl, inr, ℕ, Bool, true, false, cond, List, ◌∷◌, length, slice_get, Option, None, Some, refl, sym, ap, ◌∙◌, subst}
use Rattle.std.specs.List.{list_all}
use Rattle.rpg_program.specs.declared.input.InputFile.{InputFile}
use Rattle.rpg_program.specs.declared.input.InputFile.TheVariants.{Primary, Secondary}
use Rattle.rpg_machine.specs.Config.{Output, charged}
use Rattle.rpg_program.specs.Object.{Object}
use Rattle.rpg_cycle.proofs.Files.{file_orderly, none_up, or_up, settled_spent, top_any, value_other, value_own}
use Rattle.rpg_cycle_records.proofs.Order.{not_both}
use Rattle.rpg_cycle_records.specs.Earlier.{Selected, control_fields, file_at, last_value, left_by, match_value, or_before, with_record}
use Rattle.rpg_program.specs.Ends as effects
use Rattle.rpg_cycle.specs.Ends.{Continues, Wrong}
use Rattle.rpg_cycle.specs.Indicators.{with_levels, with_type}
use Rattle.rpg_cycle_records.specs.Levels.{is_in_record}
use Rattle.rpg_cycle_records.specs.Matching.{is_greater}
use Rattle.rpg_cycle_records.specs.Merging.{IsFileOrderly, IsFromFile, IsMerged, AreMergedInOrder, IsTopIfAny, IsTopOf, IsUpTo, front, is_spent}
use Rattle.rpg_cycle.specs.Phases.{Done, UnderWay, broken_level, done, type_indicator, select_one, select_from, select_waiting, with_config, with_inputs}
use Rattle.rpg_cycle_records.specs.Waiting.{InputState, Inputs, chosen, first_of, input_at, is_after_end, other_file, takes_in, waiting_value, waiting_in, with_waiting}

-- the one value doesn't have to wait for the other
abbrev GoesBefore : Option (List ℕ) → Option (List ℕ) → Type 0
GoesBefore None w = Unit {0}
GoesBefore (Some v) None = ⊥
GoesBefore (Some v) (Some w) = is_greater v w ≡ false

-- a record waits in the other file that the value doesn't have to wait for
record IsBefore (p : Object) (m : Option (List ℕ)) (x : InputState) : Type 0 where
  pub other : Selected
  pub waits : x.waiting ≡ Some other
  pub before : GoesBefore m (match_value p other)

-- ---- the file that it was selected from

own_top : (p : Object) (earlier : List Selected) (f : InputFile) (x : InputState) (s : Selected) → x.waiting ≡ Some s → file_at p s ≡ f → IsTopOf p (front p earlier f x) earlier →
    IsTopOf p (or_before (last_value p f earlier) (match_value p s)) earlier
own_top p earlier f x s w own h =
    subst (λ (m : Option (List ℕ)). IsTopOf p (or_before (last_value p f earlier) m) earlier) (value_own p f s own)
    (subst (λ (o : Option Selected). IsTopOf p (or_before (last_value p f earlier) (waiting_value p f o)) earlier) w h)

still_unspent : (p : Object) (f : InputFile) (x : InputState) (s : Selected) → x.waiting ≡ Some s → is_spent p f x ≡ false
still_unspent p f x s w = rw w refl

left_own : (p : Object) (earlier : List Selected) (f : InputFile) (x : InputState) (s : Selected) → x.waiting ≡ Some s → file_at p s ≡ f → IsFileOrderly p earlier f x →
    IsFileOrderly p (s ∷ earlier) f (record { waiting = None; is_over = x.is_over })
left_own p earlier f x s w own h = record {
  own = tt;
  top = λ k. subst (λ (m : Option (List ℕ)). IsTopOf p (or_before (last_value p f earlier) m) (s ∷ earlier)) (sym (value_own p f s own))
      (or_up (last_value p f earlier) (match_value p s), own_top p earlier f x s w own (h.top (still_unspent p f x s w)));
}

-- ---- the other file

above : (m n last : Option (List ℕ)) → GoesBefore m n → IsUpTo (or_before last n) m
above None n last h = none_up (or_before last n)
above (Some v) None last h = absurd h
above (Some v) (Some w) last h = h

left_other : (p : Object) (earlier : List Selected) (f : InputFile) (x : InputState) (s : Selected) → file_at p s ≡ f → IsFileOrderly p earlier (other_file f) x →
    (is_spent p (other_file f) x ≡ true) ⊎ IsBefore p (match_value p s) x → IsFileOrderly p (s ∷ earlier) (other_file f) x
left_other p earlier f x s own h (inl spent) = record { own = h.own; top = λ k. absurd (let e : true ≡ false = sym spent ∙ k in cc) }
left_other p earlier f x s own h (inr b) = record {
  own = h.own;
  top = λ k. subst (λ (m : Option (List ℕ)). IsTopOf p (or_before (or_before (last_value p g earlier) m) (waiting_value p g x.waiting)) (s ∷ earlier)) (sym (value_other p f s own)) (up, h.top k);
}
  where
    g : InputFile
    g = other_file f

    theirs : file_at p b.other ≡ g
    theirs = subst (λ (o : Option Selected). IsFromFile p g o) b.waits h.own

    value : waiting_value p g x.waiting ≡ match_value p b.other
    value = ap (waiting_value p g) b.waits ∙ value_own p g b.other theirs

    up : IsUpTo (or_before (last_value p g earlier) (waiting_value p g x.waiting)) (match_value p s)
    up = subst (λ (m : Option (List ℕ)). IsUpTo (or_before (last_value p g earlier) m) (match_value p s)) (sym value) (above (match_value p s) (match_value p b.other) (last_value p g earlier) b.before)

-- ---- both

pub record Picked (p : Object) (earlier : List Selected) (d : UnderWay) : Type 0 where
  pub orderly : AreMergedInOrder p (with_record d.selected earlier) d.inputs
  pub top : (s : Selected) → d.selected ≡ Some s → IsTopIfAny p (match_value p s) earlier

one : (s t : Selected) → Some s ≡ Some t → s ≡ t
one s t h = cc

at : (p : Object) (earlier : List Selected) (i : Inputs) (f : InputFile) (s : Selected) → IsMerged p (s ∷ earlier) → IsFileOrderly p (s ∷ earlier) f (record { waiting = None; is_over = (input_at i f).is_over }) →
    IsFileOrderly p (s ∷ earlier) (other_file f) (input_at i (other_file f)) → AreMergedInOrder p (s ∷ earlier) (with_waiting f None i)
at p earlier i Primary s m g h = record { merged = m; primary = g; secondary = h }
at p earlier i Secondary s m g h = record { merged = m; primary = h; secondary = g }

orderly_with : (p : Object) (earlier : List Selected) (i : Inputs) (f : InputFile) (s : Selected) → AreMergedInOrder p earlier i → waiting_in i f ≡ Some s →
    (is_spent p (other_file f) (input_at i (other_file f)) ≡ true) ⊎ IsBefore p (match_value p s) (input_at i (other_file f)) →
    AreMergedInOrder p (s ∷ earlier) (with_waiting f None i) × IsTopIfAny p (match_value p s) earlier
orderly_with p earlier i f s h w other =
    let mine = file_orderly p earlier i h f in
    let own : file_at p s ≡ f = subst (λ (o : Option Selected). IsFromFile p f o) w mine.own in
    let top = top_any p (match_value p s) (last_value p f earlier) earlier (own_top p earlier f (input_at i f) s w own (mine.top (still_unspent p f (input_at i f) s w))) in (
      at p earlier i f s (top, h.merged) (left_own p earlier f (input_at i f) s w own mine)
          (left_other p earlier f (input_at i (other_file f)) s own (file_orderly p earlier i h (other_file f)) other),
      top,
    )

picked : (p : Object) (earlier : List Selected) (f : InputFile) (s : Selected) (c d : UnderWay) (b : Bool) (x y : UnderWay) → AreMergedInOrder p earlier c.inputs → waiting_in c.inputs f ≡ Some s →
    (is_spent p (other_file f) (input_at c.inputs (other_file f)) ≡ true) ⊎ IsBefore p (match_value p s) (input_at c.inputs (other_file f)) →
    x.selected ≡ Some s → x.inputs ≡ with_waiting f None c.inputs →
    Continues ≡ (let r : Done = cond b (done Continues x) (done (Wrong effects.Storage) y) in r).end → d ≡ (let r : Done = cond b (done Continues x) (done (Wrong effects.Storage) y) in r).leads → Picked p earlier d
picked p earlier f s c d false x y h w other is left goes leads = absurd (cc)
picked p earlier f s c d true x y h w other is left goes leads =
    let r = orderly_with p earlier c.inputs f s h w other in
    subst (λ (z : UnderWay). Picked p earlier z) (sym leads) (record {
      orderly = subst (λ (o : Option Selected). AreMergedInOrder p (with_record o earlier) x.inputs) (sym is) (subst (λ (i : Inputs). AreMergedInOrder p (s ∷ earlier) i) (sym left) r.0);
      top = λ t e. subst (λ (z : Selected). IsTopIfAny p (match_value p z) earlier) (one s t (sym is ∙ e)) r.1;
    })

from_file : (p : Object) (earlier : List Selected) (f : InputFile) (s : Selected) (c d : UnderWay) → AreMergedInOrder p earlier c.inputs → waiting_in c.inputs f ≡ Some s →
    (is_spent p (other_file f) (input_at c.inputs (other_file f)) ≡ true) ⊎ IsBefore p (match_value p s) (input_at c.inputs (other_file f)) →
    Continues ≡ (select_waiting p (left_by p earlier) f (Some s) c).end → d ≡ (select_waiting p (left_by p earlier) f (Some s) c).leads → Picked p earlier d
from_file p earlier f s c d h w other goes leads =
    let c' = with_config (with_type (type_indicator (slice_get p.types s.type))) (with_inputs (with_waiting f None) c) in
    picked p earlier f s c d (list_all (is_in_record (length s.text)) (control_fields p s.type))
    (with_config (λ x. with_levels (broken_level p (left_by p earlier) s) (charged (length (control_fields p s.type)) x)) (record c' { selected = Some s }))
    (with_config (charged (length (control_fields p s.type))) c') h w other refl refl goes leads

-- of two records that wait
of_two : (p : Object) (earlier : List Selected) (s t : Selected) (c d : UnderWay) (m n : Option (List ℕ)) → match_value p s ≡ m → match_value p t ≡ n → AreMergedInOrder p earlier c.inputs →
    waiting_in c.inputs Primary ≡ Some s → waiting_in c.inputs Secondary ≡ Some t →
    Continues ≡ (select_from p (left_by p earlier) (Some (first_of m n)) c).end → d ≡ (select_from p (left_by p earlier) (Some (first_of m n)) c).leads → Picked p earlier d
of_two p earlier s t c d None n own theirs h v w goes leads =
    from_file p earlier Primary s c d h v (inr (record { other = t; waits = w; before = subst (λ (o : Option (List ℕ)). GoesBefore o (match_value p t)) (sym own) tt }))
    (goes ∙ ap (λ (o : Option Selected). (select_waiting p (left_by p earlier) Primary o c).end) v) (leads ∙ ap (λ (o : Option Selected). (select_waiting p (left_by p earlier) Primary o c).leads) v)
of_two p earlier s t c d (Some x) None own theirs h v w goes leads =
    from_file p earlier Secondary t c d h w (inr (record { other = s; waits = v; before = subst (λ (o : Option (List ℕ)). GoesBefore o (match_value p s)) (sym theirs) tt }))
    (goes ∙ ap (λ (o : Option Selected). (select_waiting p (left_by p earlier) Secondary o c).end) w) (leads ∙ ap (λ (o : Option Selected). (select_waiting p (left_by p earlier) Secondary o c).leads) w)
of_two p earlier s t c d (Some x) (Some y) own theirs h v w goes leads = go (is_greater x y) refl goes leads
  where
    go : (b : Bool) → is_greater x y ≡ b → Continues ≡ (select_from p (left_by p earlier) (Some (cond b Secondary Primary)) c).end →
        d ≡ (select_from p (left_by p earlier) (Some (cond b Secondary Primary)) c).leads → Picked p earlier d
    go true e goes leads =
        from_file p earlier Secondary t c d h w (inr (record {
          other = s;
          waits = v;
          before = subst (λ (o : Option (List ℕ)). GoesBefore o (match_value p s)) (sym theirs)
              (subst (λ (o : Option (List ℕ)). GoesBefore (Some y) o) (sym own) (not_both x y e));
        }))
        (goes ∙ ap (λ (o : Option Selected). (select_waiting p (left_by p earlier) Secondary o c).end) w) (leads ∙ ap (λ (o : Option Selected). (select_waiting p (left_by p earlier) Secondary o c).leads) w)
    go false e goes leads =
        from_file p earlier Primary s c d h v (inr (record {
          other = t;
          waits = w;
          before = subst (λ (o : Option (List ℕ)). GoesBefore o (match_value p t)) (sym own)
              (subst (λ (o : Option (List ℕ)). GoesBefore (Some x) o) (sym theirs) e);
        }))
        (goes ∙ ap (λ (o : Option Selected). (select_waiting p (left_by p earlier) Primary o c).end) v) (leads ∙ ap (λ (o : Option Selected). (select_waiting p (left_by p earlier) Primary o c).leads) v)

no_one : (p : Object) (earlier : List Selected) (c d : UnderWay) → AreMergedInOrder p earlier c.inputs → c.selected ≡ None → d ≡ (select_from p (left_by p earlier) None c).leads → Picked p earlier d
no_one p earlier c d h none leads = record {
  orderly = subst (λ (o : Option Selected). AreMergedInOrder p (with_record o earlier) d.inputs) (sym left) (subst (λ (u : UnderWay). AreMergedInOrder p earlier u.inputs) (sym leads) h);
  top = λ s k. absurd (let x : None ≡ Some s = sym left ∙ k in cc);
}
  where
    left : d.selected ≡ None
    left = ap (λ (u : UnderWay). u.selected) leads ∙ none

-- the only record that waits is selected, or comes after the end
alone : (p : Object) (earlier : List Selected) (f : InputFile) (s : Selected) (c d : UnderWay) (b : Bool) → AreMergedInOrder p earlier c.inputs → c.selected ≡ None → waiting_in c.inputs f ≡ Some s →
    is_spent p (other_file f) (input_at c.inputs (other_file f)) ≡ true → Continues ≡ (select_from p (left_by p earlier) (cond b None (Some f)) c).end →
    d ≡ (select_from p (left_by p earlier) (cond b None (Some f)) c).leads → Picked p earlier d
alone p earlier f s c d true h none w spent goes leads = no_one p earlier c d h none leads
alone p earlier f s c d false h none w spent goes leads =
    from_file p earlier f s c d h w (inl spent) (goes ∙ ap (λ (o : Option Selected). (select_waiting p (left_by p earlier) f o c).end) w)
    (leads ∙ ap (λ (o : Option Selected). (select_waiting p (left_by p earlier) f o c).leads) w)

pub selects : (p : Object) (earlier : List Selected) (c d : UnderWay) (out : Output) → AreMergedInOrder p earlier c.inputs → c.selected ≡ None → takes_in p c.inputs Primary ≡ false →
    takes_in p c.inputs Secondary ≡ false → select_one p (left_by p earlier) c Continues d out → Picked p earlier d
selects p earlier c d out h none first second g = go (waiting_in c.inputs Primary) (waiting_in c.inputs Secondary) refl refl
    (g.0) (g.1)
  where
    go : (v w : Option Selected) → waiting_in c.inputs Primary ≡ v → waiting_in c.inputs Secondary ≡ w → Continues ≡ (select_from p (left_by p earlier) (chosen p (left_by p earlier) v w) c).end →
        d ≡ (select_from p (left_by p earlier) (chosen p (left_by p earlier) v w) c).leads → Picked p earlier d
    go None None a b goes leads = no_one p earlier c d h none leads
    go (Some s) None a b goes leads =
        alone p earlier Primary s c d (is_after_end p.ends Secondary (left_by p earlier).secondary (match_value p s)) h none a (settled_spent p c.inputs Secondary second b) goes leads
    go None (Some t) a b goes leads =
        alone p earlier Secondary t c d (is_after_end p.ends Primary (left_by p earlier).primary (match_value p t)) h none b (settled_spent p c.inputs Primary first a) goes leads
    go (Some s) (Some t) a b goes leads = of_two p earlier s t c d (match_value p s) (match_value p t) refl refl h a b goes leads
