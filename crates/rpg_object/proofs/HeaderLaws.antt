-- The laws of the format of the header, and what its numbers keep.
use Rattle.std.proofs.Common.{◌≡◌, ℕ, ◌-◌, ◌^◌, ◌<◌, ◌≤◌, cond, zero, suc, false, List, [], ◌∷◌, Option, Some, None, Ok, Err, refl, sym, ap, subst, ◌∙◌, ◌++◌, arith, inl, inr, leb, eqb, eqb-true, ne_eqb}
use Rattle.std.proofs.lemmas.Bool.{leb-true, le-leb, and_parts, and_from}
use Rattle.std.specs.Option.{ForSome}
use Rattle.rpg_object_format.specs.declared.fault.Code.TheVariants as faults
use Rattle.rpg_object_format.specs.Format.{keep, two_bytes, pair, row, spelled_along}
use Rattle.rpg_object_format.specs.Numbers.{choice, number_where, two}
use Rattle.rpg_object_format.proofs.Laws.{IsFormat, IsRule, two_law, pair_law, row_law}
use Rattle.rpg_object_format.proofs.Rules.{choice_rule, chosen, stands_for, value_is, guarded, number_law, count_law}
use Rattle.rpg_program.specs.Kept.{IsOverflowIndicator}
use Rattle.rpg_program.specs.declared.rows.Version.{Version}
use Rattle.rpg_program.specs.declared.rows.Version.TheVariants as versions
use Rattle.rpg_object_format.specs.Shapes.{no_number, row_where, unused_number}
use Rattle.rpg_object_format.proofs.ShapeLaws.{either_holds, either_keeps, no_number_law, unused_is, unused_number_law, where_used_law}
use Rattle.rpg_paper.specs.Paper.{IsPage, standard_page}
use Rattle.rpg_paper.specs.declared.form.Page.{Page}
use Rattle.rpg_text.specs.Texts.{is_between}
use Rattle.rpg_object.specs.declared.header.Counts.{Counts}
use Rattle.rpg_object.specs.declared.header.Header.{Header}
use Rattle.rpg_object.specs.declared.header.Settings.{Settings}
use Rattle.rpg_program.specs.Object.{has_page, has_secondary, version_number}
use Rattle.rpg_program.specs.declared.input.InputFile.{InputFile}
use Rattle.rpg_program.specs.declared.input.InputFile.TheVariants.{Primary, Secondary}
use Rattle.rpg_object_format.specs.Indicators.{indicator_number}
use Rattle.rpg_object.specs.Header.{counts, ending_number, endings, ends_format, header_format, most_instructions, overflow_of, page_format, page_numbers, page_text, secondary_length, settings, version_of}
use Rattle.rpg_object_format.proofs.Choices.{within, counted, between, few}

version_rule : IsRule version_of version_number
version_rule n x e =
    elim (chosen (eqb n 1) (stands_for versions.One) (cond (eqb n 2) (stands_for versions.Two) (cond (eqb n 3) (stands_for versions.Three) (Err faults.Version))) (stands_for x) e) [
      | inl w ↦ ap version_number (sym (value_is versions.One x w.1)) ∙ sym (eqb-true _ _ w.0)
      | inr w ↦ elim (chosen (eqb n 2) (stands_for versions.Two) (cond (eqb n 3) (stands_for versions.Three) (Err faults.Version)) (stands_for x) w.1) [
        | inl u ↦ ap version_number (sym (value_is versions.Two x u.1)) ∙ sym (eqb-true _ _ u.0)
        | inr u ↦ elim (chosen (eqb n 3) (stands_for versions.Three) (Err faults.Version) (stands_for x) u.1) [
          | inl t ↦ ap version_number (sym (value_is versions.Three x t.1)) ∙ sym (eqb-true _ _ t.0)
          | inr t ↦ absurd (let k = t.1 in cc)
        ]
      ]
    ]

overflow_rule : IsRule overflow_of indicator_number
overflow_rule n x e =
    elim (chosen (eqb n 0) (stands_for None) (cond (is_between 112 119 n) (stands_for (Some n)) (Err faults.NotAllowed)) (stands_for x) e) [
      | inl w ↦ ap indicator_number (sym (value_is None x w.1)) ∙ sym (eqb-true _ _ w.0)
      | inr w ↦ sym (ap indicator_number (guarded (is_between 112 119 n) faults.NotAllowed (Some n) x w.1))
    ]

settings_law : IsFormat settings
unfolding settings
settings_law =
    row_law _ _ _ (λ a h. refl) (λ x. refl)
    (pair_law _ _ (number_law (is_between 1 65535)) (λ allowance.
    pair_law _ _ (number_law (is_between 1 9999)) (λ record_length.
    pair_law _ _ (number_law (is_between 0 132)) (λ printer_length.
    pair_law _ _ (number_law (is_between 0 9999)) (λ disk_length.
    two_law overflow_of indicator_number overflow_rule)))))

counts_law : IsFormat counts
unfolding counts
counts_law =
    row_law _ _ _ (λ a h. refl) (λ x. refl)
    (pair_law _ _ (count_law 4000) (λ f. pair_law _ _ (count_law 200) (λ t. pair_law _ _ (count_law 1000) (λ l.
    pair_law _ _ (count_law most_instructions) (λ d. pair_law _ _ (count_law (most_instructions - d)) (λ n. count_law 100))))))

secondary_length_law : (v : Version) → IsFormat (secondary_length v)
secondary_length_law v = where_used_law (has_secondary v) _ 0 unused_number (number_law (is_between 0 9999)) unused_number_law

page_law : IsFormat page_numbers
unfolding page_numbers
page_law = row_law _ _ _ (λ a h. refl) (λ x. refl) (pair_law _ _ (number_law (is_between 3 112)) (λ lines. number_law (is_between 1 lines)))

page_format_law : (v : Version) → IsFormat (page_format v)
page_format_law v = where_used_law (has_page v) page_numbers standard_page no_number page_law no_number_law

ends_law : (v : Version) (n : ℕ) → IsFormat (ends_format v n)
ends_law v n = where_used_law (has_page v) _ None no_number (two_law (choice (endings n) ending_number) ending_number (choice_rule (endings n) ending_number)) no_number_law

pub header_law : IsFormat header_format
unfolding header_format
header_law =
    row_law _ _ _ (λ a h. refl) (λ x. refl)
    (pair_law _ _ (two_law version_of version_number version_rule) (λ v. pair_law _ _ settings_law (λ s. pair_law _ _ counts_law (λ c.
    pair_law _ _ (secondary_length_law v) (λ n. pair_law _ _ (page_format_law v) (λ page. ends_law v n))))))

-- ---- what the header keeps

pub record AreSettings (s : Settings) : Type 0 where
  pub lowest_allowance : 1 ≤ s.allowance
  pub highest_allowance : s.allowance ≤ 65535
  pub shortest_record : 1 ≤ s.record_length
  pub longest_record : s.record_length ≤ 9999
  pub widest_line : s.printer_length ≤ 132
  pub longest_disk_record : s.disk_length ≤ 9999
  pub overflow : ForSome s.overflow IsOverflowIndicator

pub record AreCounts (c : Counts) : Type 0 where
  pub few_fields : c.fields ≤ 4000
  pub few_types : c.types ≤ 200
  pub few_lines : c.lines ≤ 1000
  pub few_detail : c.detail ≤ 8192
  pub few_total : c.total ≤ 8192 - c.detail
  pub few_subroutines : c.subroutines ≤ 100

overflow_kept : (o : Option ℕ) → overflow_of (indicator_number o) ≡ Ok o → ForSome o IsOverflowIndicator
overflow_kept None e n is = absurd cc
overflow_kept (Some m) e n is =
    let same : m ≡ n = cc in
    elim (chosen (eqb m 0) (stands_for None) (cond (is_between 112 119 m) (stands_for (Some m)) (Err faults.NotAllowed)) (stands_for (Some m)) e) [
      | inl w ↦ absurd (let k = w.1 in cc)
      | inr w ↦ elim (chosen (is_between 112 119 m) (stands_for (Some m)) (Err faults.NotAllowed) (stands_for (Some m)) w.1) [
        | inl u ↦ let k = and_parts (leb 112 m) (leb m 119) u.0 in let low = leb-true _ _ k.0 in let high = leb-true _ _ k.1 in record { lowest = omega arith; highest = omega arith }
        | inr u ↦ absurd (let k = u.1 in cc)
      ]
    ]

pub settings_kept : (s : Settings) → settings.Holds s → AreSettings s
unfolding settings row pair two_bytes
settings_kept s h =
    let allowance = within 1 65535 s.allowance h.0.0 in
    let record_length = within 1 9999 s.record_length h.1.0.0 in
    record {
      lowest_allowance = allowance.0;
      highest_allowance = allowance.1;
      shortest_record = record_length.0;
      longest_record = record_length.1;
      widest_line = (within 0 132 s.printer_length h.1.1.0.0).1;
      longest_disk_record = (within 0 9999 s.disk_length h.1.1.1.0.0).1;
      overflow = overflow_kept s.overflow h.1.1.1.1.0;
    }

pub counts_kept : (c : Counts) → counts.Holds c → AreCounts c
unfolding counts row pair two_bytes
counts_kept c h = record {
  few_fields = counted 4000 c.fields h.0.0;
  few_types = counted 200 c.types h.1.0.0;
  few_lines = counted 1000 c.lines h.1.1.0.0;
  few_detail = counted 8192 c.detail h.1.1.1.0.0;
  few_total = counted (8192 - c.detail) c.total h.1.1.1.1.0.0;
  few_subroutines = counted 100 c.subroutines h.1.1.1.1.1.0;
}

pub record IsHeader (h : Header) : Type 0 where
  pub settings : AreSettings h.settings
  pub counts : AreCounts h.counts
  pub longest_secondary : h.secondary_length ≤ 9999
  pub plain : has_secondary h.version ≡ false → h.secondary_length ≡ 0
  pub page : IsPage h.page
  pub ends : h.secondary_length ≡ 0 → h.ends ≡ None
  pub standard : has_page h.version ≡ false → (h.page ≡ standard_page) × (h.ends ≡ None)

secondary_kept : (v : Version) (n : ℕ) → (secondary_length v).Holds n → n ≤ 9999
unfolding two_bytes
secondary_kept v = either_keeps (λ n. n ≤ 9999) (has_secondary v) (number_where (is_between 0 9999)) 0 unused_number (λ n h. (within 0 9999 n h.0).1) (omega arith)

page_kept : (v : Version) (page : Page) → (page_format v).Holds page → IsPage page
unfolding page_numbers row pair two_bytes
page_kept v = either_keeps IsPage (has_page v) page_numbers standard_page no_number each (record { shortest = omega arith; longest = omega arith; first = omega arith; within = omega arith })
  where
    each : (page : Page) → page_numbers.Holds page → IsPage page
    each page h =
        let lines = within 3 112 page.lines h.0.0 in
        let line = within 1 page.lines page.overflow_line h.1.0 in
        record { shortest = lines.0; longest = lines.1; first = line.0; within = line.1 }

-- without a secondary file no file ends the job alone
ends_kept : (v : Version) (n : ℕ) (ends : Option InputFile) → (ends_format v n).Holds ends → n ≡ 0 → ends ≡ None
unfolding two_bytes
ends_kept v n ends h none = either_keeps (λ x. x ≡ None) (has_page v) _ None no_number each refl ends (subst (λ (k : ℕ). (ends_format v k).Holds ends) none h)
  where
    each : (ends : Option InputFile) → (two_bytes (choice (endings 0) ending_number) ending_number).Holds ends → ends ≡ None
    each None h = refl
    each (Some Primary) h = absurd (let e = h.0 in cc)
    each (Some Secondary) h = absurd (let e = h.0 in cc)

pub header_kept : (h : Header) → header_format.Holds h → IsHeader h
unfolding header_format row pair two_bytes
header_kept h holds = record {
  settings = settings_kept h.settings holds.1.0;
  counts = counts_kept h.counts holds.1.1.0;
  longest_secondary = secondary_kept h.version h.secondary_length holds.1.1.1.0;
  plain = unused_is (has_secondary h.version) (number_where (is_between 0 9999)) 0 unused_number h.secondary_length holds.1.1.1.0;
  page = page_kept h.version h.page holds.1.1.1.1.0;
  ends = ends_kept h.version h.secondary_length h.ends holds.1.1.1.1.1;
  standard = λ old. (
    unused_is (has_page h.version) page_numbers standard_page no_number h.page holds.1.1.1.1.0 old,
    unused_is (has_page h.version) _ None no_number h.ends holds.1.1.1.1.1 old,
  );
}

-- ---- what keeps that is a header

overflow_from : (o : Option ℕ) → ForSome o IsOverflowIndicator → (overflow_of (indicator_number o) ≡ Ok o) × (indicator_number o < 2 ^ 16)
overflow_from None h = (refl, omega arith)
overflow_from (Some n) h =
    let i = h n refl in
    (rw (ne_eqb n 0 (omega (arith, i.lowest)), and_from (leb 112 n) (leb n 119) (le-leb 112 n i.lowest) (le-leb n 119 i.highest)) refl, omega (arith, i.highest))

settings_from : (s : Settings) → AreSettings s → settings.Holds s
unfolding settings row pair two_bytes
settings_from s h =
    let a = h.highest_allowance in let b = h.longest_record in let c = h.widest_line in let d = h.longest_disk_record in (
      (between 1 65535 s.allowance h.lowest_allowance h.highest_allowance, omega arith),
      (
        (between 1 9999 s.record_length h.shortest_record h.longest_record, omega arith),
        (
          (between 0 132 s.printer_length (omega arith) h.widest_line, omega arith),
          ((between 0 9999 s.disk_length (omega arith) h.longest_disk_record, omega arith), overflow_from s.overflow h.overflow),
        ),
      ),
    )

counts_from : (c : Counts) → AreCounts c → counts.Holds c
unfolding counts row pair two_bytes
counts_from c h =
    let f = h.few_fields in let t = h.few_types in let l = h.few_lines in let d = h.few_detail in let n = h.few_total in let s = h.few_subroutines in (
      (few 4000 c.fields f, omega arith),
      (
        (few 200 c.types t, omega arith),
        ((few 1000 c.lines l, omega arith), ((few 8192 c.detail d, omega arith), ((few (8192 - c.detail) c.total n, omega arith), (few 100 c.subroutines s, omega arith)))),
      ),
    )

version_from : (v : Version) → (version_of (version_number v) ≡ Ok v) × (version_number v < 2 ^ 16)
version_from versions.One = (refl, omega arith)
version_from versions.Two = (refl, omega arith)
version_from versions.Three = (refl, omega arith)

secondary_from : (v : Version) (n : ℕ) → n ≤ 9999 → (has_secondary v ≡ false → n ≡ 0) → (secondary_length v).Holds n
unfolding two_bytes
secondary_from v n le plain = either_holds (has_secondary v) (number_where (is_between 0 9999)) 0 unused_number n (between 0 9999 n (omega arith) le, omega arith) (refl, omega arith) plain

page_from : (v : Version) (page : Page) → IsPage page → (has_page v ≡ false → page ≡ standard_page) → (page_format v).Holds page
unfolding page_numbers no_number row pair two_bytes
page_from v page h standard =
    let most = h.longest in let last = h.within in
    either_holds (has_page v) page_numbers standard_page no_number page
    ((between 3 112 page.lines h.shortest most, omega arith), (between 1 page.lines page.overflow_line h.first last, omega arith)) tt standard

ends_from : (v : Version) (n : ℕ) (ends : Option InputFile) → (n ≡ 0 → ends ≡ None) → (has_page v ≡ false → ends ≡ None) → (ends_format v n).Holds ends
unfolding no_number two_bytes
ends_from v n ends alone old = either_holds (has_page v) (two_bytes (choice (endings n) ending_number) ending_number) None no_number ends (each n ends alone) tt old
  where
    any : (ends : Option InputFile) → (choice (None ∷ Some Primary ∷ Some Secondary ∷ []) ending_number (ending_number ends) ≡ Ok ends) × (ending_number ends < 2 ^ 16)
    any None = (refl, omega arith)
    any (Some Primary) = (refl, omega arith)
    any (Some Secondary) = (refl, omega arith)

    each : (n : ℕ) (ends : Option InputFile) → (n ≡ 0 → ends ≡ None) → (two_bytes (choice (endings n) ending_number) ending_number).Holds ends
    each zero ends alone = rw (alone refl) (refl, omega arith)
    each (suc n) ends alone = rw (ne_eqb (suc n) 0 (omega arith)) (any ends)

pub header_from : (h : Header) → IsHeader h → header_format.Holds h
unfolding header_format row pair two_bytes
header_from h k = (
  version_from h.version,
  (
    settings_from h.settings k.settings,
    (
      counts_from h.counts k.counts,
      (
        secondary_from h.version h.secondary_length k.longest_secondary k.plain,
        (page_from h.version h.page k.page (λ old. (k.standard old).0), ends_from h.version h.secondary_length h.ends k.ends (λ old. (k.standard old).1)),
      ),
    ),
  ),
)

-- ---- the bytes of a header

-- the numbers of a header, of which the first and the overflow indicator's are these
abbrev pub header_numbers : ℕ → ℕ → Header → List ℕ
header_numbers version overflow h =
    version ∷ h.settings.allowance ∷ h.settings.record_length ∷ h.settings.printer_length ∷ h.settings.disk_length ∷ overflow
    ∷ h.counts.fields ∷ h.counts.types ∷ h.counts.lines ∷ h.counts.detail ∷ h.counts.total ∷ h.counts.subroutines ∷ h.secondary_length ∷ []

secondary_text : (v : Version) (n : ℕ) → (has_secondary v ≡ false → n ≡ 0) → (secondary_length v).spelling n ≡ two n
unfolding row_where two_bytes
secondary_text versions.One n plain = rw (plain refl) refl
secondary_text versions.Two n plain = refl
secondary_text versions.Three n plain = refl

-- these numbers, two bytes each, and what follows them in version 3
pub header_text : (h : Header) → (has_secondary h.version ≡ false → h.secondary_length ≡ 0) → (version overflow : ℕ) → version ≡ version_number h.version → overflow ≡ indicator_number h.settings.overflow
    → header_format.spelling h ≡ spelled_along (λ s n. two n) keep tt (header_numbers version overflow h) ++ page_text h
unfolding header_format settings counts row pair two_bytes
header_text h plain version overflow v o = rw (secondary_text h.version h.secondary_length plain, v, o) refl
