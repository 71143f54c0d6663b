-- The files of a source without a fault: the printer's overflow indicator and page, and the file that ends the job alone.
use Rattle.std.proofs.Common.{◌≡◌, Bool, true, false, cond, List, [], ◌∷◌, Option, None, Some, refl, subst, arith}
use Rattle.std.proofs.lemmas.Bool.{ltb-false}
use Rattle.std.specs.Cmp.Lexicographic.{pointwise}
use Rattle.std.specs.List.{cons_option, filter_map}
use Rattle.std.specs.Option.{ForSome, option_and_then, option_map_or}
use Rattle.std.specs.Prelude.{find, nat_eq}
use Rattle.rpg_cards.specs.Cards.{file_on, form_on}
use Rattle.rpg_cards.specs.Files.{ending_file, ends_alone, file_for, file_use, form_named, page_of, page_on, same_use}
use Rattle.rpg_cards.specs.Plain.{Each}
use Rattle.rpg_cards.specs.declared.files.FileUse.TheVariants.{Primary, Printer, Secondary}
use Rattle.rpg_cards.specs.declared.spec_card.SpecCard.{SpecCard}
use Rattle.rpg_faults_limits.specs.Files.{bad_form}
use Rattle.rpg_paper.specs.Paper.{IsPage, standard_page}
use Rattle.rpg_program.specs.Kept.{IsOverflowIndicator}
use Rattle.rpg_sheet_specs.specs.declared.file.FileSpec.{FileSpec}
use Rattle.rpg_sheet_specs.specs.declared.form.FormSpec.{FormSpec}
use Rattle.rpg_sheet_specs.specs.declared.spec.Spec.{Spec}
use Rattle.rpg_sheet_specs.specs.declared.spec.Spec.TheVariants as spec
use Rattle.rpg_compile_program.proofs.Each.{each_at}
use Rattle.rpg_compile_program.proofs.Lists.{Seen, each_card, or_second}
use Rattle.rpg_compile_program.proofs.Settings.{own}
use Rattle.rpg_compile_program.specs.Lines.{record_length_of}
use Rattle.rpg_compile_program.specs.Ranges.{AreCards, IsCard, IsForm, IsInRange}
use Rattle.rpg_compile_program.specs.Rules.{KeepsCardRules}

abbrev HasOverflow : FileSpec → Type 0
HasOverflow f = ForSome f.overflow IsOverflowIndicator

on_card : (s : Spec) → IsInRange s → (f : FileSpec) → file_on s ≡ Some f → HasOverflow f
on_card (spec.Header x) range f e = absurd cc
on_card (spec.File x) range f e = let same : x ≡ f = cc in subst HasOverflow same range
on_card (spec.Extension x) range f e = absurd cc
on_card (spec.Form x) range f e = absurd cc
on_card (spec.Input x) range f e = absurd cc
on_card (spec.Calculation x) range f e = absurd cc
on_card (spec.Output x) range f e = absurd cc
on_card (spec.Data x) range f e = absurd cc

on_form : (s : Spec) → IsInRange s → (f : FormSpec) → form_on s ≡ Some f → IsForm f
on_form (spec.Header x) range f e = absurd cc
on_form (spec.File x) range f e = absurd cc
on_form (spec.Extension x) range f e = absurd cc
on_form (spec.Form x) range f e = let same : x ≡ f = cc in subst IsForm same range
on_form (spec.Input x) range f e = absurd cc
on_form (spec.Calculation x) range f e = absurd cc
on_form (spec.Output x) range f e = absurd cc
on_form (spec.Data x) range f e = absurd cc

-- what each card keeps, what is found on the cards keeps
module _ {X : Type 0} (on : Spec → Option X) (P : X → Type 0) (test : X → Bool) where
  abbrev Keeps : SpecCard → Type 0
  Keeps c = (x : X) → on c.spec ≡ Some x → P x

  by_card : (o : Option X) (rest : List X) → ((x : X) → o ≡ Some x → P x) → ((x : X) → find test rest ≡ Some x → P x) → (x : X) → find test (cons_option o rest) ≡ Some x → P x
  by_card None rest here later x e = later x e
  by_card (Some y) rest here later x e = by (test y) e
    where
      by : (b : Bool) → cond b (Some y) (find test rest) ≡ Some x → P x
      by true is = let same : y ≡ x = cc in subst P same (here y refl)
      by false is = later x is

  found : (cards : List SpecCard) → Each Keeps cards → (x : X) → find test (filter_map (λ c. on c.spec) cards) ≡ Some x → P x
  found [] h x e = absurd cc
  found (c ∷ cs) h x e = by_card (on c.spec) (filter_map (λ c. on c.spec) cs) h.0 (found cs h.1) x e

each_file : (cards : List SpecCard) → AreCards cards → Each (λ c. (f : FileSpec) → file_on c.spec ≡ Some f → HasOverflow f) cards
each_file [] h = tt
each_file (c ∷ cs) h = (on_card c.spec h.0, each_file cs h.1)

pub overflow_kept : (cards : List SpecCard) → AreCards cards → ForSome (option_and_then (λ (f : FileSpec). f.overflow) (file_for Printer cards)) IsOverflowIndicator
overflow_kept cards ranges = by (file_for Printer cards) (found file_on HasOverflow (λ f. same_use Printer (file_use f)) cards (each_file cards ranges))
  where
    by : (o : Option FileSpec) → ((f : FileSpec) → o ≡ Some f → HasOverflow f) → ForSome (option_and_then (λ (f : FileSpec). f.overflow) o) IsOverflowIndicator
    by None h n e = absurd cc
    by (Some f) h n e = h f refl n e

module _ (cards : List SpecCard) (rules : KeepsCardRules cards) where
  abbrev IsPageOn : FormSpec → Type 0
  IsPageOn f = IsPage (page_on f)

  -- F7: the overflow line is on the page
  pages : AreCards cards → Seen cards (λ before c after. (f : FormSpec) → form_on c.spec ≡ Some f → IsPageOn f)
  pages ranges before c after split f on =
      let valid : bad_form cards before f ≡ false = subst (λ (o : Option FormSpec). option_map_or (bad_form cards before) o false ≡ false) on (or_second _ (option_map_or (bad_form cards before) (form_on c.spec) false) (rules.f7 before c after split)) in
      let range = on_form c.spec (each_at IsCard before c after (subst AreCards split ranges)) f on in
      record { shortest = range.shortest; longest = range.longest; first = range.first; within = ltb-false f.lines f.overflow_line (or_second _ _ (or_second _ _ valid)) }

  pub page_kept : AreCards cards → IsPage (page_of cards)
  page_kept ranges = by_file (file_for Printer cards)
    where
      standard : IsPage standard_page
      standard = record { shortest = omega arith; longest = omega arith; first = omega arith; within = omega arith }

      by_form : (o : Option FormSpec) → ((f : FormSpec) → o ≡ Some f → IsPageOn f) → IsPage (option_map_or page_on o standard_page)
      by_form None h = standard
      by_form (Some f) h = h f refl

      by_file : (o : Option FileSpec) → IsPage (option_map_or page_on (option_and_then (λ f. form_named f.name cards) o) standard_page)
      by_file None = standard
      by_file (Some f) = by_form (form_named f.name cards) (found form_on IsPageOn (λ g. pointwise nat_eq f.name g.file) cards (each_card cards (λ c. (f : FormSpec) → form_on c.spec ≡ Some f → IsPageOn f) (pages ranges)))

  -- a secondary file has a length
  pub ends_kept : record_length_of (file_for Secondary cards) ≡ 0 → ending_file cards ≡ None
  ends_kept = by (file_for Secondary cards) refl (file_for Primary cards)
    where
      by : (s : Option FileSpec) → file_for Secondary cards ≡ s → (p : Option FileSpec) → record_length_of s ≡ 0 → option_and_then (λ (p : FileSpec). option_and_then (λ (s : FileSpec). ends_alone p.ends_job s.ends_job) s) p ≡ None
      by None is None e = refl
      by None is (Some p) e = refl
      by (Some s) is p e = absurd (let low = (own cards rules Secondary s is).lowest in omega arith)
