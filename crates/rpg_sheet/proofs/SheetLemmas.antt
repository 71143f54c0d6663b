-- What is kept of the lines before says what is wrong with the next.
use Rattle.std.proofs.Common.{◌≡◌, ℕ, ◌+◌, ◌<◌, ◌≤◌, Bool, true, false, List, [], ◌∷◌, ◌++◌, length, Option, Some, None, refl, sym, ap, ◌∙◌, arith, length-append, map}
use Rattle.std.specs.Prelude.{Result, Ok, Err, IfErr, OnOk, if◌then◌else◌, ◌||◌, ◌&&◌, not, nat_lt, nat_le, is_none}
use Rattle.std.specs.List.{list_any, list_all}
use Rattle.std.specs.Option.{option_map_or, option_or}
use Rattle.std.specs.Str.Lines.{lines}
use Rattle.std.proofs.lemmas.List.Folds.{list_any-append}
use Rattle.std.proofs.lemmas.Grind.{common_steps}
use Rattle.rpg_sheet_specs.specs.declared.form_type.FormType.{FormType}
use Rattle.rpg_sheet.specs.declared.sheet.CardFault.{CardFault}
use Rattle.rpg_sheet.specs.declared.sheet.SheetCode.{SheetCode}
use Rattle.rpg_sheet.specs.declared.sheet.SheetCode.TheVariants.{S1, S2, S3, S4, S5, S6}
use Rattle.rpg_sheet.specs.declared.sheet.SheetFault.TheVariants.{At}
use Rattle.rpg_text.specs.Texts.{is_character}
use Rattle.rpg_sheet_specs.specs.Cards.{card_of, begins_data, ends_source, is_sheet, form_type, sheet_place}
use Rattle.rpg_sheet_specs.specs.Specs.{spec_of, specs_from}
use Rattle.rpg_sheet.specs.Readable.{has_bad_column}
use Rattle.rpg_sheet.specs.Sheet.{comes_after, has_begun_data, line_code, sheet_fault_columns, fault_after, source}
use Rattle.rpg_sheet.specs.Seen.{AreLinesSeen, form_code, sheet_code, code_seen}
use Rattle.rpg_sheet.proofs.Padding.{card_characters}

-- which of six tests is the first that passes
abbrev pub first_code : Bool → Bool → Bool → Bool → Bool → Bool → Option SheetCode
first_code a b c d e f = if a then Some S1 else if b then Some S2 else if c then Some S3 else if d then Some S4 else if e then Some S5 else if f then Some S6 else None

abbrev judged : (FormType → Bool) → (FormType → Bool) → Option FormType → Option SheetCode
judged late wrong None = Some S3
judged late wrong (Some g) = if late g then Some S4 else if wrong g then Some S5 else None

abbrev on_sheet : Bool → Option FormType → Option FormType
on_sheet sheet f = if sheet then f else None

-- the same, where S3 to S5 are tested on cards of a sheet alone
by_cases : (long bad sheet many : Bool) (f : Option FormType) (late wrong : FormType → Bool)
    → (if long then Some S1 else if bad then Some S2 else option_or (if sheet then judged late wrong f else None) (if many then Some S6 else None))
    ≡ first_code long bad (sheet && is_none f) (option_map_or late (on_sheet sheet f) false) (option_map_or wrong (on_sheet sheet f) false) many
by_cases true bad sheet many f late wrong = refl
by_cases false true sheet many f late wrong = refl
by_cases false false false many f late wrong = refl
by_cases false false true many None late wrong = refl
by_cases false false true many (Some g) late wrong = two (late g) (wrong g)
  where
    two : (l w : Bool) → option_or (if l then Some S4 else if w then Some S5 else None) (if many then Some S6 else None) ≡ first_code false false false l w many
    two true w = refl
    two false true = refl
    two false false = refl

same_form_code : (earlier : List (List ℕ)) (latest : ℕ) (card : List ℕ) (f : Option FormType) → ((n : ℕ) → list_any (λ e. comes_after n (card_of e)) earlier ≡ nat_lt n latest)
    → form_code latest card f ≡ judged (λ g. list_any (λ e. comes_after (sheet_place g) (card_of e)) earlier) (λ g. has_bad_column g card) f
same_form_code earlier latest card None h = refl
same_form_code earlier latest card (Some g) h = rw (h (sheet_place g)) refl

pub code_is_seen : (earlier : List (List ℕ)) (count latest : ℕ) (data_begun : Bool) (line : List ℕ) → AreLinesSeen earlier count latest data_begun → code_seen count latest data_begun line ≡ line_code earlier line
code_is_seen earlier count latest data_begun line seen =
    rw (seen.count_is, seen.data_begun_is, same_form_code earlier latest (card_of line) (form_type (card_of line)) seen.latest_is)
    (by_cases (nat_lt 80 (length line)) (not (list_all is_character line)) (is_sheet (has_begun_data earlier) (card_of line)) (nat_le 2000 (length earlier))
    (form_type (card_of line)) (λ f. list_any (λ e. comes_after (sheet_place f) (card_of e)) earlier) (λ f. has_bad_column f (card_of line)))

pub seen-push : (earlier : List (List ℕ)) (count latest latest' : ℕ) (data_begun : Bool) (line : List ℕ) → AreLinesSeen earlier count latest data_begun
    → ((n : ℕ) → nat_lt n latest' ≡ (nat_lt n latest || comes_after n (card_of line)))
    → AreLinesSeen (earlier ++ line ∷ []) (count + 1) latest' (data_begun || begins_data (card_of line))
seen-push earlier count latest latest' data_begun line seen step = record {
  count_is = let c = seen.count_is in omega (arith, length-append earlier (line ∷ []));
  latest_is = λ n. rw (list_any-append, seen.latest_is n, step n) (or_false (nat_lt n latest) (comes_after n (card_of line)));
  data_begun_is = rw (list_any-append, sym seen.data_begun_is) (sym (or_false data_begun (begins_data (card_of line))));
}
  where
    or_false : (a b : Bool) → (a || (b || false)) ≡ (a || b)
    or_false true b = refl
    or_false false true = refl
    or_false false false = refl

pub few_seen : (count latest : ℕ) (data_begun : Bool) (line : List ℕ) → code_seen count latest data_begun line ≡ None → count < 2000
few_seen count latest data_begun line h = by (nat_lt 80 (length line)) (not (list_all is_character line)) (sheet_code latest data_begun (card_of line)) h
  where
    by : (a b : Bool) (x : Option SheetCode) → (if a then Some S1 else if b then Some S2 else option_or x (if nat_le 2000 count then Some S6 else None)) ≡ None → count < 2000
    by true b x e = absurd cc
    by false true x e = absurd cc
    by false false (Some c) e = absurd cc
    by false false None e = grind (arith, common_steps)

-- ---- the code of a line by its columns

not_long : (n : ℕ) → n ≤ 80 → nat_lt 80 n ≡ false
not_long n h = grind (arith, common_steps)

same_characters : (line columns : List ℕ) → length line ≤ 80 → columns ≡ card_of line → list_all is_character line ≡ list_all is_character columns
same_characters line columns short is = sym (ap (list_all is_character) is ∙ card_characters line short)

-- a byte that is no character
pub code_unfit : (count latest : ℕ) (data_begun : Bool) (line columns : List ℕ) → length line ≤ 80 → columns ≡ card_of line → list_all is_character columns ≡ false
    → code_seen count latest data_begun line ≡ Some S2
code_unfit count latest data_begun line columns short is bad = rw (not_long (length line) short, same_characters line columns short is ∙ bad) refl

-- characters alone
pub code_fit : (count latest : ℕ) (data_begun : Bool) (line columns : List ℕ) → length line ≤ 80 → columns ≡ card_of line → list_all is_character columns ≡ true
    → code_seen count latest data_begun line ≡ option_or (sheet_code latest data_begun columns) (if nat_le 2000 count then Some S6 else None)
code_fit count latest data_begun line columns short is valid = rw (not_long (length line) short, same_characters line columns short is ∙ valid, is) refl

few_cards : (count : ℕ) → count < 2000 → nat_le 2000 count ≡ false
few_cards count few = grind (arith, common_steps)

many_cards : (count : ℕ) → 2000 ≤ count → nat_le 2000 count ≡ true
many_cards count many = grind (arith, common_steps)

pub code_valid : (count latest : ℕ) (data_begun : Bool) (line columns : List ℕ) → length line ≤ 80 → columns ≡ card_of line → list_all is_character columns ≡ true
    → sheet_code latest data_begun columns ≡ None → count < 2000 → code_seen count latest data_begun line ≡ None
code_valid count latest data_begun line columns short is characters valid few = code_fit count latest data_begun line columns short is characters ∙ rw (valid, few_cards count few) refl

pub code_bad : (count latest : ℕ) (data_begun : Bool) (line columns : List ℕ) (code : SheetCode) → length line ≤ 80 → columns ≡ card_of line → list_all is_character columns ≡ true
    → sheet_code latest data_begun columns ≡ Some code → code_seen count latest data_begun line ≡ Some code
code_bad count latest data_begun line columns code short is characters bad = code_fit count latest data_begun line columns short is characters ∙ rw bad refl

-- card 2,001, with the code that it has as a card, or else that it is one too many
pub code_past : (count latest : ℕ) (data_begun : Bool) (line columns : List ℕ) (code : SheetCode) → length line ≤ 80 → columns ≡ card_of line → list_all is_character columns ≡ true
    → 2000 ≤ count → Some code ≡ option_or (sheet_code latest data_begun columns) (Some S6) → code_seen count latest data_begun line ≡ Some code
code_past count latest data_begun line columns code short is characters many by = code_fit count latest data_begun line columns short is characters ∙ rw (many_cards count many) (sym by)

-- a card before card 2,001, as it is read
pub code_if_read : {X E : Type 0} (count latest : ℕ) (data_begun : Bool) (line columns : List ℕ) (Means : Type 0) (read : Result X E) → length line ≤ 80 → columns ≡ card_of line
    → list_all is_character columns ≡ true → count < 2000 → OnOk read (Means × (sheet_code latest data_begun columns ≡ None)) → OnOk read (code_seen count latest data_begun line ≡ None)
code_if_read count latest data_begun line columns Means (Ok x) short is characters few valid = code_valid count latest data_begun line columns short is characters valid.1 few
code_if_read count latest data_begun line columns Means (Err e) short is characters few valid = tt

pub code_if_bad : {X : Type 0} (count latest : ℕ) (data_begun : Bool) (line columns : List ℕ) (Reports : CardFault → Type 0) (read : Result X CardFault) → length line ≤ 80 → columns ≡ card_of line
    → list_all is_character columns ≡ true → IfErr read (λ fault. (sheet_code latest data_begun columns ≡ Some fault.code) × Reports fault)
    → IfErr read (λ fault. code_seen count latest data_begun line ≡ Some fault.code)
code_if_bad count latest data_begun line columns Reports (Ok x) short is characters bad = tt
code_if_bad count latest data_begun line columns Reports (Err e) short is characters bad = code_bad count latest data_begun line columns e.code short is characters bad.0

-- ---- a line more

pub source_ends : (text line following : List ℕ) → lines text ≡ line ∷ lines following → ends_source (card_of line) ≡ true → source text ≡ line ∷ []
source_ends text line following cut e = rw cut (rw e refl)

pub source_continues : (text line following : List ℕ) → lines text ≡ line ∷ lines following → ends_source (card_of line) ≡ false → source text ≡ line ∷ source following
source_continues text line following cut e = rw cut (rw e refl)

source_begins : (text line following : List ℕ) → lines text ≡ line ∷ lines following → (more : List (List ℕ)) × (source text ≡ line ∷ more)
source_begins text line following cut = by (ends_source (card_of line)) refl
  where
    by : (b : Bool) → ends_source (card_of line) ≡ b → (more : List (List ℕ)) × (source text ≡ line ∷ more)
    by true e = ([], source_ends text line following cut e)
    by false e = (source following, source_continues text line following cut e)

-- a line without a fault
pub fault_after-valid : (earlier more : List (List ℕ)) (count latest : ℕ) (data_begun : Bool) (line : List ℕ) → AreLinesSeen earlier count latest data_begun → code_seen count latest data_begun line ≡ None
    → fault_after earlier (line ∷ more) ≡ fault_after (earlier ++ line ∷ []) more
fault_after-valid earlier more count latest data_begun line seen valid = rw (sym (code_is_seen earlier count latest data_begun line seen) ∙ valid) refl

-- a line with one
pub fault_after-bad : (earlier : List (List ℕ)) (text rest : List ℕ) (count latest : ℕ) (data_begun : Bool) (line : List ℕ) (code : SheetCode) → lines text ≡ line ∷ lines rest
    → AreLinesSeen earlier count latest data_begun → code_seen count latest data_begun line ≡ Some code
    → fault_after earlier (source text) ≡ Some (At (count + 1) code (sheet_fault_columns data_begun (card_of line) code))
fault_after-bad earlier text rest count latest data_begun line code cut seen bad =
    let first = source_begins text line rest cut in
    rw (first.1, sym (code_is_seen earlier count latest data_begun line seen) ∙ bad, seen.count_is, seen.data_begun_is) refl

-- ---- what a line more stands for

pub specs-push : (before : Bool) (earlier : List (List ℕ)) (line : List ℕ)
    → specs_from before (map card_of (earlier ++ line ∷ [])) ≡ specs_from before (map card_of earlier) ++ spec_of (before || has_begun_data earlier) (card_of line) ∷ []
specs-push before [] line = rw (no_more before) refl
  where
    no_more : (b : Bool) → (b || false) ≡ b
    no_more true = refl
    no_more false = refl
specs-push before (e ∷ es) line =
    ap (λ more. spec_of before (card_of e) ∷ more) (specs-push (before || begins_data (card_of e)) es line ∙ ap (λ b. specs_from (before || begins_data (card_of e)) (map card_of es) ++ spec_of b (card_of line) ∷ []) (again before (begins_data (card_of e)) (has_begun_data es)))
  where
    again : (a b c : Bool) → ((a || b) || c) ≡ (a || (b || c))
    again true b c = refl
    again false b c = refl
