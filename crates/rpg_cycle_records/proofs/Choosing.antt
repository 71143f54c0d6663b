-- The record that goes first of two, and the one that is left when the other file has ended.
use Rattle.std.proofs.Common.{◌≡◌, ℕ, Bool, true, false, cond, not, ◌&&◌, List, Option, None, Some, refl, ap, ◌∙◌, subst}
use Rattle.rpg_cycle_records.proofs.Matches.{last_below}
use Rattle.rpg_cycle_records.specs.Earlier.{Selected, file_at, last_value, left_by, match_value, or_before, value_from}
use Rattle.rpg_cycle_records.specs.Holding.{HoldsRecord, record_as}
use Rattle.rpg_cycle_records.specs.Identifying.{same_file}
use Rattle.rpg_cycle_records.specs.Keeping.{seen_value}
use Rattle.rpg_cycle_records.specs.Matching.{exceeds, is_greater}
use Rattle.rpg_cycle_records.specs.Merging.{IsFileOrderly, IsFromFile, IsTopOf, TheEndIsACut, is_cut_off, is_spent}
use Rattle.rpg_cycle_records.specs.Waiting.{InputState, chosen, first_of, is_after_end, waiting_in, waiting_value}
use Rattle.rpg_cycle_records.specs.declared.files.KeptFile.{KeptFile}
use Rattle.rpg_cycle_records.specs.declared.matching.MatchValue.{MatchValue}
use Rattle.rpg_program.specs.declared.input.InputFile.{InputFile}
use Rattle.rpg_program.specs.declared.input.InputFile.TheVariants.{Primary, Secondary}
use Rattle.rpg_program.specs.Object.{Object}

-- ---- by what is kept

pub both_wait : (p : Object) (a b : KeptFile) (s t : ℕ) → HoldsRecord p Primary a s → HoldsRecord p Secondary b t →
    Some (first_of (seen_value a.value) (seen_value b.value)) ≡ Some (first_of (match_value p (record_as s a)) (match_value p (record_as t b)))
both_wait p a b s t h g = ap (λ v. Some (first_of v (seen_value b.value))) h.value ∙ ap (λ v. Some (first_of (match_value p (record_as s a)) v)) g.value

pub one_waits : (p : Object) (f ended : InputFile) (last : MatchValue) (k : KeptFile) (t : ℕ) → HoldsRecord p f k t →
    is_after_end p.ends ended (seen_value last) (seen_value k.value) ≡ is_after_end p.ends ended (seen_value last) (match_value p (record_as t k))
one_waits p f ended last k t h = ap (is_after_end p.ends ended (seen_value last)) h.value

-- ---- the end is a cut

-- a record of a file is one from the file
own_value : (p : Object) (f : InputFile) (s : Selected) → file_at p s ≡ f → value_from p f s ≡ match_value p s
own_value p Primary s e = ap (λ g. cond (same_file g Primary) (match_value p s) None) e
own_value p Secondary s e = ap (λ g. cond (same_file g Secondary) (match_value p s) None) e

-- its value isn't below one that was selected
not_below : (p : Object) (earlier : List Selected) (f g : InputFile) (x : InputState) (s : Selected) (m : Option (List ℕ)) → IsFileOrderly p earlier g x → x.waiting ≡ Some s → match_value p s ≡ m →
    exceeds (last_value p f earlier) m ≡ false
not_below p earlier f g x s None h w is = none (last_value p f earlier)
  where
    none : (o : Option (List ℕ)) → exceeds o None ≡ false
    none None = refl
    none (Some v) = refl
not_below p earlier f g x s (Some v) h w is =
    let own : file_at p s ≡ g = subst (λ (o : Option Selected). IsFromFile p g o) w h.own in
    let value : waiting_value p g x.waiting ≡ Some v = ap (waiting_value p g) w ∙ own_value p g s own ∙ is in
    let unspent : is_spent p g x ≡ false = rw w refl in
    last_below p f v earlier (subst (λ (o : Option (List ℕ)). IsTopOf p (or_before (last_value p g earlier) o) earlier) value (h.top unspent))

neither : (a b : Bool) → b ≡ false → not (not a && not b) ≡ a
neither true b h = refl
neither false true h = cc
neither false false h = refl

same_cut : (f : InputFile) (last v : Option (List ℕ)) → exceeds last v ≡ false → is_after_end (Some f) f last v ≡ is_cut_off f last v
same_cut Primary None None h = refl
same_cut Primary None (Some v) h = refl
same_cut Secondary None None h = refl
same_cut Secondary None (Some v) h = refl
same_cut Primary (Some w) None h = refl
same_cut Secondary (Some w) None h = refl
same_cut Primary (Some w) (Some v) h = neither (is_greater v w) (is_greater w v) h
same_cut Secondary (Some w) (Some v) h = neither (is_greater v w) (is_greater w v) h

pub cut : TheEndIsACut
cut p earlier i Primary s h is ended waits =
    ap (λ (o : Option Selected). chosen p (left_by p earlier) o (waiting_in i Secondary)) ended ∙ ap (λ (o : Option Selected). chosen p (left_by p earlier) None o) waits
    ∙ ap (λ (o : Option InputFile). cond (is_after_end o Primary (last_value p Primary earlier) (match_value p s)) None (Some Secondary)) is
    ∙ ap (λ (b : Bool). cond b None (Some Secondary))
    (same_cut Primary (last_value p Primary earlier) (match_value p s) (not_below p earlier Primary Secondary i.secondary s (match_value p s) h.secondary waits refl))
cut p earlier i Secondary s h is ended waits =
    ap (λ (o : Option Selected). chosen p (left_by p earlier) o (waiting_in i Secondary)) waits ∙ ap (λ (o : Option Selected). chosen p (left_by p earlier) (Some s) o) ended
    ∙ ap (λ (o : Option InputFile). cond (is_after_end o Secondary (last_value p Secondary earlier) (match_value p s)) None (Some Primary)) is
    ∙ ap (λ (b : Bool). cond b None (Some Primary))
    (same_cut Secondary (last_value p Secondary earlier) (match_value p s) (not_below p earlier Secondary Primary i.primary s (match_value p s) h.primary waits refl))
