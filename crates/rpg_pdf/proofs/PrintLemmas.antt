-- What is made and written of a print.
use Rattle.std.proofs.Common.{◌≡◌, ◌==◌, if◌then◌else◌, ◌+◌, ◌<◌, ◌≤◌, ℕ, suc, true, false, List, [], ◌∷◌, ◌++◌, length, take, drop, refl, sym, ap, ap₂, ◌∙◌, subst, arith, append_assoc, append-nil, length-append, Option, None, Some, Ok, Err, Vec, Global, Bool, ◌≢◌}
use Rattle.std.proofs.KnownBytes.{Appends-kept, Appends-nil, Appends-trans}
use Rattle.std.proofs.lemmas.Bool.Decides.{nat_tests}
use Rattle.std.proofs.lemmas.Bool.{cond-false, cond-true, le-ltb, lt-ltb}
use Rattle.std.proofs.lemmas.List.{take-append-le, take_all}
use Rattle.std.proofs.lemmas.List.Concat.{flat_map-append}
use Rattle.std.proofs.Math.Seq.{take-append-add}
use Rattle.std.proofs.lemmas.List.Elements.{All-append, All-cons, All-nil}
use Rattle.std.proofs.lemmas.List.Folds.{concat-append}
use Rattle.std.proofs.lemmas.List.Splits.{slice_split-cons_no, slice_split-cons_yes, slice_split_at, slice_split_none}
use Rattle.std.specs.Io.KnownBytes.{Appends, Consumes, IsAtEnd, Keeps}
use Rattle.std.specs.List.{All, concat, flat_map, onto_first, slice_split}
use Rattle.std.specs.Prelude.{nat_lt, IfErr, IfOk, IfSome, IsErrAnd, MatchResult, OnOk, Result, is_ok}
use Rattle.rpg_files.specs.Counting.{device_of}
use Rattle.rpg_files.specs.Sending.{AppendsPrefix}
use Rattle.rpg_files.specs.declared.counting.Counted.{Counted}
use Rattle.rpg_pdf.specs.Contents.{contents, most_page_bytes, page_fault}
use Rattle.rpg_pdf.specs.Made.{Adds, AddsPage, Begins, Ends, place_of}
use Rattle.rpg_pdf.specs.Objects.{body, catalog, contents_object, ending, entry, entry_count, first_bytes, first_objects, font, front, offsets, page_object, page_objects, pdf, starts, tree}
use Rattle.rpg_pdf.specs.Outcomes.{Failures, HasSent, IsFault, IsFresh, IsPaper, IsStopped, IsUnsent, Laid, Reaches, Reading, known_print, most_pages, page_or, pages_fault, written_by}
use Rattle.rpg_pdf.specs.Pages.{pages}
use Rattle.rpg_pdf.specs.declared.state.PageFault.{PageFault}
use Rattle.rpg_pdf.specs.declared.state.PageFault.TheVariants as page_faults
use Rattle.rpg_pdf.specs.declared.state.PaperFault.{PaperFault}
use Rattle.rpg_pdf.specs.declared.state.PaperFault.TheVariants as faults
use Rattle.rpg_pdf.specs.declared.state.Sheet.{Sheet}
use Rattle.rpg_pdf.specs.declared.state.Made.{Made}
use Rattle.rpg_pdf.specs.declared.state.Press.{Press}

-- ---- results

-- what a call ensures of the value that it returned
pub at_ok : {X E : Type 0} (P : X → Type 0) (r : Result X E) (x : X) → IfOk r P → r ≡ Ok x → P x
at_ok P r x p e = subst (λ t. IfOk t P) e p

pub at_ok_any : {X E A : Type 0} (r : Result X E) (x : X) → OnOk r A → r ≡ Ok x → A
at_ok_any {A = A} r x p e = subst (λ t. OnOk t A) e p

-- a fault that is passed on
pub passed_on : {X : Type 0} (P : X → Type 0) (Q : PaperFault → Type 0) (r : Result X PaperFault) (fault : PaperFault) → IsErrAnd r (λ e. e ≡ fault) → Q fault → MatchResult r P Q
passed_on P Q (Ok x) fault is q = absurd is
passed_on P Q (Err e) fault is q = subst Q (sym is) q

pub if_known : {X : Type 0} {P : X → Type 0} (o : Option X) → ((x : X) → o ≡ Some x → P x) → IfSome o P
if_known None h = tt
if_known (Some x) h = h x refl

-- ---- lists of objects

starts-append : (here : ℕ) (xs ys : List (List ℕ)) → starts here (xs ++ ys) ≡ starts here xs ++ starts (here + length (concat xs)) ys
unfolding starts
starts-append here [] ys = ap (λ n. starts n ys) (omega arith)
starts-append here (x ∷ xs) ys =
    let same : here + length x + length (concat xs) ≡ here + length (x ++ concat xs) = omega (arith, length-append x (concat xs)) in
    ap (λ t. here ∷ t) (starts-append (here + length x) xs ys ∙ ap (λ n. starts (here + length x) xs ++ starts n ys) same)

page_objects-append : (s : Sheet) (i : ℕ) (done later : List (List ℕ)) → page_objects s i (done ++ later) ≡ page_objects s i done ++ page_objects s (i + length done) later
unfolding page_objects
page_objects-append s i [] later = ap (λ n. page_objects s n later) (omega arith)
page_objects-append s i (one ∷ done) later =
    let same : i + 1 + length done ≡ i + suc (length done) = omega arith in
    ap (λ t. page_object i ∷ contents_object i (contents s one) ∷ t) (page_objects-append s (i + 1) done later ∙ ap (λ n. page_objects s (i + 1) done ++ page_objects s n later) same)

first_objects-append : (s : Sheet) (done later : List (List ℕ)) → first_objects s (done ++ later) ≡ first_objects s done ++ page_objects s (length done) later
first_objects-append s done later =
    let same : 0 + length done ≡ length done = omega arith in
    ap (λ t. catalog ∷ font ∷ t) (page_objects-append s 0 done later ∙ ap (λ n. page_objects s 0 done ++ page_objects s n later) same)

front-append : (s : Sheet) (done later : List (List ℕ)) → front s (done ++ later) ≡ front s done ++ concat (page_objects s (length done) later)
front-append s done later =
    ap (λ xs. first_bytes ++ concat xs) (first_objects-append s done later) ∙ ap (λ t. first_bytes ++ t) (concat-append (first_objects s done) (page_objects s (length done) later))
    ∙ sym (append_assoc first_bytes (concat (first_objects s done)) (concat (page_objects s (length done) later)))

-- the PDF of pages begins with what is made of the first of them
begins : (s : Sheet) (done later : List (List ℕ)) → (rest : List ℕ) × (pdf s (done ++ later) ≡ front s done ++ rest)
begins s done later =
    let all : List (List ℕ) = done ++ later in
    let end : List ℕ = tree s (length all) ++ ending (entry_count (length all)) (length (body s all)) (offsets s all) in
    let more : List ℕ = concat (page_objects s (length done) later) in (
      more ++ end,
      append_assoc (front s all) (tree s (length all)) (ending (entry_count (length all)) (length (body s all)) (offsets s all)) ∙ ap (λ t. t ++ end) (front-append s done later) ∙ append_assoc (front s done) more end,
    )

-- ---- prefixes

pub none_sent : (a : Option (List ℕ)) (text : List ℕ) → AppendsPrefix a a text
none_sent a text = (0, (omega arith, Appends-nil a))

part_sent : (a b c : Option (List ℕ)) (sent next whole rest : List ℕ) → Appends a b sent → AppendsPrefix b c next → whole ≡ sent ++ next ++ rest → AppendsPrefix a c whole
part_sent a b c sent next whole rest first part is =
    let parts : whole ≡ sent ++ (next ++ rest) = is ∙ append_assoc sent next rest in
    let cut : take (length sent + part.0) whole ≡ sent ++ take part.0 next =
    ap (take (length sent + part.0)) parts ∙ take-append-add sent (next ++ rest) part.0 ∙ ap (λ t. sent ++ t) (take-append-le part.0 next rest part.1.0) in (
      length sent + part.0,
      (omega (arith, part.1.0, ap length is, length-append (sent ++ next) rest, length-append sent next), subst (Appends a c) (sym cut) (Appends-trans a b c sent (take part.0 next) first part.1.1)),
    )

pub whole_sent : (a b : Option (List ℕ)) (text : List ℕ) → Appends a b text → AppendsPrefix a b text
whole_sent a b text h = (length text, (omega arith, subst (Appends a b) (sym (take_all (length text) text (omega arith))) h))

-- ---- what is made

-- after a part of what was made is written too
pub laid_part : (s : Sheet) (before now after : Option (List ℕ)) (all done later : List (List ℕ)) (made : Made) → Laid s before now done made → all ≡ done ++ later → AppendsPrefix now after made.out.items
    → AppendsPrefix before after (pdf s all)
laid_part s before now after all done later made laid parts sent =
    let pdf_is = begins s done later in
    part_sent before now after laid.sent made.out.items (pdf s all) pdf_is.0 laid.written sent (ap (pdf s) parts ∙ pdf_is.1 ∙ ap (λ t. t ++ pdf_is.0) (sym laid.whole))

pub laid_size : (s : Sheet) (before now : Option (List ℕ)) (all done later : List (List ℕ)) (made : Made) → Laid s before now done made → all ≡ done ++ later → place_of made ≤ length (pdf s all)
laid_size s before now all done later made laid parts =
    let pdf_is = begins s done later in
    omega (arith, ap length (ap (pdf s) parts ∙ pdf_is.1), length-append (front s done) pdf_is.0, ap length laid.whole, length-append laid.sent made.out.items, laid.at)

laid_place : (s : Sheet) (before now : Option (List ℕ)) (done : List (List ℕ)) (made : Made) → Laid s before now done made → place_of made ≡ length (front s done)
laid_place s before now done made laid = omega (arith, ap length laid.whole, length-append laid.sent made.out.items, laid.at)

more_entries : (here : ℕ) (x : List ℕ) (xs ys : List (List ℕ))
    → flat_map entry (drop 1 (starts here (x ∷ xs))) ++ flat_map entry (starts (here + length (concat (x ∷ xs))) ys) ≡ flat_map entry (drop 1 (starts here ((x ∷ xs) ++ ys)))
unfolding starts
more_entries here x xs ys =
    let same : here + length x + length (concat xs) ≡ here + length (x ++ concat xs) = omega (arith, length-append x (concat xs)) in
    sym (ap (flat_map entry) (starts-append (here + length x) xs ys ∙ ap (λ n. starts (here + length x) xs ++ starts n ys) same) ∙ flat_map-append entry (starts (here + length x) xs) (starts (here + length (x ++ concat xs)) ys))

pub laid_page : (s : Sheet) (before now : Option (List ℕ)) (done : List (List ℕ)) (old new : Made) (page text : List ℕ) (n : ℕ) → Laid s before now done old
    → Adds old new (page_object n ∷ contents_object n text ∷ []) → n ≡ length done → text ≡ contents s page → Laid s before now (done ++ page ∷ []) new
unfolding page_objects
laid_page s before now done old new page text n laid adds e is =
    let objects : List (List ℕ) = page_objects s (length done) (page ∷ []) in
    let same : page_object n ∷ contents_object n text ∷ [] ≡ objects = ap₂ (λ k t. page_object k ∷ contents_object k t ∷ []) e is in
    let out : new.out.items ≡ old.out.items ++ concat objects = adds.out ∙ ap (λ xs. old.out.items ++ concat xs) same in
    let place : place_of old ≡ length first_bytes + length (concat (first_objects s done)) = laid_place s before now done old laid ∙ length-append first_bytes (concat (first_objects s done)) in
    record {
      sent = laid.sent;
      written = laid.written;
      at = adds.at ∙ laid.at;
      whole = ap (λ t. laid.sent ++ t) out ∙ sym (append_assoc laid.sent old.out.items (concat objects)) ∙ ap (λ t. t ++ concat objects) laid.whole ∙ sym (front-append s done (page ∷ []));
      entries =
          adds.entries ∙ ap₂ (λ t p. t ++ flat_map entry (starts p (page_object n ∷ contents_object n text ∷ []))) laid.entries place
          ∙ ap (λ xs. flat_map entry (drop 1 (starts (length first_bytes) (first_objects s done))) ++ flat_map entry (starts (length first_bytes + length (concat (first_objects s done))) xs)) same
          ∙ more_entries (length first_bytes) catalog (font ∷ page_objects s 0 done) objects
          ∙ ap (λ xs. flat_map entry (drop 1 (starts (length first_bytes) xs))) (sym (first_objects-append s done (page ∷ [])));
    }

pub laid_first : (s : Sheet) (a : Option (List ℕ)) (old new : Made) → old.out.items ≡ [] → old.entries.items ≡ [] → old.at ≡ 0 → Begins old new → Laid s a a [] new
unfolding page_objects starts
laid_first s a old new out entries at begun =
    let head : old.out.items ++ first_bytes ++ catalog ≡ first_bytes ++ catalog = ap (λ t. t ++ first_bytes ++ catalog) out in
    let place : old.at + length (old.out.items ++ first_bytes ++ catalog) ≡ length first_bytes + length catalog = omega (arith, at, ap length head, length-append first_bytes catalog) in
    record {
      sent = [];
      written = Appends-nil a;
      at = begun.at ∙ at;
      whole = begun.out ∙ ap (λ t. t ++ font) head ∙ append_assoc first_bytes catalog font ∙ ap (λ t. first_bytes ++ (catalog ++ t)) (sym (append-nil font));
      entries = begun.entries ∙ ap₂ (λ t n. t ++ entry n) entries place ∙ sym (append-nil (entry (length first_bytes + length catalog)));
    }

-- all of it
laid_whole : (s : Sheet) (before now : Option (List ℕ)) (done : List (List ℕ)) (old new : Made) (n : ℕ) (laid : Laid s before now done old) → Ends s n old new → n ≡ length done → laid.sent ++ new.out.items ≡ pdf s done
unfolding starts first_bytes
laid_whole s before now done old new n laid ends e =
    let places : List ℕ = drop 1 (starts (length first_bytes) (first_objects s done)) in
    let tree_is : old.out.items ++ tree s n ≡ old.out.items ++ tree s (length done) = ap (λ k. old.out.items ++ tree s k) e in
    let front_is : laid.sent ++ (old.out.items ++ tree s n) ≡ body s done =
    ap (λ t. laid.sent ++ t) tree_is ∙ sym (append_assoc laid.sent old.out.items (tree s (length done))) ∙ ap (λ t. t ++ tree s (length done)) laid.whole in
    let start : old.at + length (old.out.items ++ tree s n) ≡ length (body s done) = omega (arith, laid.at, ap length front_is, length-append laid.sent (old.out.items ++ tree s n)) in
    let end : ending (entry_count n) (old.at + length (old.out.items ++ tree s n)) (15 ∷ place_of old ∷ places) ≡ ending (entry_count (length done)) (length (body s done)) (offsets s done) =
    ap₂ (λ k at. ending (entry_count k) at (15 ∷ place_of old ∷ places)) e start ∙ ap (λ p. ending (entry_count (length done)) (length (body s done)) (15 ∷ p ∷ places)) (laid_place s before now done old laid) in
    ap (λ t. laid.sent ++ t) (ends.out places laid.entries)
    ∙ sym (append_assoc laid.sent (old.out.items ++ tree s n) (ending (entry_count n) (old.at + length (old.out.items ++ tree s n)) (15 ∷ place_of old ∷ places)))
    ∙ ap₂ (λ t u. t ++ u) front_is end

-- ---- a press

laid_sent : (s : Sheet) (before now after : Option (List ℕ)) (done : List (List ℕ)) (old new : Made) → Laid s before now done old → Appends now after old.out.items → new.at ≡ place_of old → new.out.items ≡ []
    → new.entries ≡ old.entries → Laid s before after done new
laid_sent s before now after done old new laid sent at out entries = record {
  sent = laid.sent ++ old.out.items;
  written = Appends-trans before now after laid.sent old.out.items laid.written sent;
  at = at ∙ ap (λ n. n + length old.out.items) laid.at ∙ sym (length-append laid.sent old.out.items);
  whole = ap (λ t. laid.sent ++ old.out.items ++ t) out ∙ append-nil (laid.sent ++ old.out.items) ∙ laid.whole;
  entries = ap (λ (v : Vec ℕ Global). v.items) entries ∙ laid.entries;
}

module _ {R W : Type 0} (has : W → Option (List ℕ)) (s : Sheet) (before : Option (List ℕ)) (all : List (List ℕ)) where
  pub stop_is : (press : Press R W) (fault : PaperFault) → IsStopped s has before all press fault → IsPaper s all before (written_by has press) (Err fault)
  stop_is press fault stop = (stop.is_fault, stop.written)

  pub passed_stop : (press : Press R W) (r : Result ℕ PaperFault) (fault : PaperFault) → IsErrAnd r (λ e. e ≡ fault) → IsStopped s has before all press fault → IsPaper s all before (written_by has press) r
  passed_stop press (Ok x) fault is stop = absurd is
  passed_stop press (Err e) fault is stop = subst (λ f. IsPaper s all before (written_by has press) (Err f)) (sym is) (stop_is press fault stop)

  -- nothing more was written, and why no more is
  pub stopped : (left : List (List ℕ)) (old new : Press R W) (fault : PaperFault) → Reaches s has before all left old → new.writer ≡ old.writer → IsFault s all fault → IsStopped s has before all new fault
  stopped left old new fault r same e = record {
    is_fault = e;
    written =
        subst (λ (w : Counted W). AppendsPrefix before (has (device_of w)) (pdf s all)) (sym same)
        (laid_part s before (written_by has old) (written_by has old) all r.done left old.made r.laid r.parts (none_sent (written_by has old) old.made.out.items));
  }

  -- a part of what was made was written, and why not all of it
  pub unsent : (done left : List (List ℕ)) (old new : Press R W) (fault : PaperFault) → Laid s before (written_by has old) done old.made → all ≡ done ++ left → IsUnsent has old new fault → IsStopped s has before all new fault
  unsent done left old new fault laid parts e = record {
    is_fault = e.is_fault s all (laid_size s before (written_by has old) all done left old.made laid parts);
    written = laid_part s before (written_by has old) (written_by has new) all done left old.made laid parts e.written;
  }

  pub page_faulty : (later : List (List ℕ)) (page : List ℕ) (press : Press R W) (fault : PageFault) → Reaches s has before all (page ∷ later) press → press.number < most_pages → page_fault press.sheet page ≡ Some fault
      → IsFault s all (faults.Page (press.number + 1) fault)
  page_faulty later page press fault r few e =
      let lt : length r.done < most_pages = omega (arith, few, r.number) in
      r.faults ∙ cond-true (nat_lt (length r.done) most_pages) (page_or (length r.done) (page_fault s page) (pages_fault s (length r.done + 1) later)) (Some faults.Pages) (lt-ltb (length r.done) most_pages lt)
      ∙ ap (λ f. page_or (length r.done) f (pages_fault s (length r.done + 1) later)) (subst (λ k. page_fault k page ≡ Some fault) r.sheet e) ∙ ap (λ n. Some (faults.Page (n + 1) fault)) (sym r.number)

  pub too_many : (later : List (List ℕ)) (page : List ℕ) (press : Press R W) → Reaches s has before all (page ∷ later) press → most_pages ≤ press.number → IsFault s all faults.Pages
  too_many later page press r h =
      r.faults ∙ cond-false (nat_lt (length r.done) most_pages) (page_or (length r.done) (page_fault s page) (pages_fault s (length r.done + 1) later)) (Some faults.Pages) (le-ltb (length r.done) most_pages (omega (arith, r.number, h)))

  -- the page that was begun doesn't fit
  pub page_stops : (later : List (List ℕ)) (page slice : List ℕ) (old kept new : Press R W) (fault : PageFault) (found : Option PageFault) → Reaches s has before all (page ∷ later) old → old.number < most_pages → slice ≡ page
      → found ≡ page_fault old.sheet slice → found ≡ Some fault → new ≡ kept → kept.writer ≡ old.writer → kept.number ≡ old.number → IsStopped s has before all new (faults.Page (new.number + 1) fault)
  page_stops later page slice old kept new fault found r few same is some e writer number =
      let there : page_fault old.sheet page ≡ Some fault = ap (page_fault old.sheet) (sym same) ∙ sym is ∙ some in
      subst (λ (p : Press R W). IsStopped s has before all p (faults.Page (p.number + 1) fault)) (sym e)
      (stopped (page ∷ later) old kept (faults.Page (kept.number + 1) fault) r writer (subst (λ (n : ℕ). IsFault s all (faults.Page (n + 1) fault)) (sym number) (page_faulty later page old fault r few there)))

  page_laid : (later : List (List ℕ)) (page slice : List ℕ) (old kept : Press R W) (found : Option PageFault) (r : Reaches s has before all (page ∷ later) old) → slice ≡ page → AddsPage old.sheet old.number slice old.made kept.made found
      → found ≡ None → kept.writer ≡ old.writer → Laid s before (written_by has kept) (r.done ++ page ∷ []) kept.made
  page_laid later page slice old kept found r same adds none writer =
      let text : contents old.sheet slice ≡ contents s page = ap₂ (λ k t. contents k t) r.sheet same in
      subst (λ (w : Counted W). Laid s before (has (device_of w)) (r.done ++ page ∷ []) kept.made) (sym writer)
      (laid_page s before (written_by has old) r.done old.made kept.made page (contents old.sheet slice) old.number r.laid (adds.objects none) r.number text)

  page_parts : (later : List (List ℕ)) (page : List ℕ) (old : Press R W) (r : Reaches s has before all (page ∷ later) old) → all ≡ (r.done ++ page ∷ []) ++ later
  page_parts later page old r = r.parts ∙ sym (append_assoc r.done (page ∷ []) later)

  -- a part of it was written
  pub page_unsent : (later : List (List ℕ)) (page slice : List ℕ) (old kept mid new : Press R W) (found : Option PageFault) (fault : PaperFault) → Reaches s has before all (page ∷ later) old → slice ≡ page
      → AddsPage old.sheet old.number slice old.made kept.made found → found ≡ None → mid ≡ kept → kept.writer ≡ old.writer → IsUnsent has mid new fault → IsStopped s has before all new fault
  page_unsent later page slice old kept mid new found fault r same adds none e writer h =
      unsent (r.done ++ page ∷ []) later kept new fault (page_laid later page slice old kept found r same adds none writer) (page_parts later page old r) (subst (λ (p : Press R W). IsUnsent has p new fault) e h)

  -- all of it was
  pub page_done : (later : List (List ℕ)) (page slice : List ℕ) (old kept mid sent new : Press R W) (found : Option PageFault) → Reaches s has before all (page ∷ later) old → old.number < most_pages → slice ≡ page
      → AddsPage old.sheet old.number slice old.made kept.made found → found ≡ None → mid ≡ kept → kept.writer ≡ old.writer → kept.number ≡ old.number → kept.sheet ≡ old.sheet → HasSent has mid sent
      → new.writer ≡ sent.writer → new.made ≡ sent.made → new.number ≡ sent.number + 1 → new.sheet ≡ sent.sheet → Reaches s has before all later new
  page_done later page slice old kept mid sent new found r few same adds none e writer_kept number_kept sheet_kept h' writer made number sheet =
      let h : HasSent has kept sent = subst (λ (p : Press R W). HasSent has p sent) e h' in
      let lt : length r.done < most_pages = omega (arith, few, r.number) in
      let more : length (r.done ++ page ∷ []) ≡ length r.done + 1 = length-append r.done (page ∷ []) in
      let fits : page_fault s page ≡ None = ap₂ (λ k t. page_fault k t) (sym r.sheet) (sym same) ∙ sym adds.fault_is ∙ none in
      let laid_kept = page_laid later page slice old kept found r same adds none writer_kept in
      let laid_new = laid_sent s before (written_by has kept) (written_by has sent) (r.done ++ page ∷ []) kept.made sent.made laid_kept h.written h.at h.out h.entries in
      record {
        done = r.done ++ page ∷ [];
        parts = page_parts later page old r;
        faults =
            r.faults
            ∙ cond-true (nat_lt (length r.done) most_pages) (page_or (length r.done) (page_fault s page) (pages_fault s (length r.done + 1) later)) (Some faults.Pages) (lt-ltb (length r.done) most_pages lt)
            ∙ ap (λ f. page_or (length r.done) f (pages_fault s (length r.done + 1) later)) fits ∙ ap (λ n. pages_fault s n later) (sym more);
        number = number ∙ ap (λ n. n + 1) (h.number ∙ number_kept ∙ r.number) ∙ sym more;
        laid = subst (λ (w : Counted W). Laid s before (has (device_of w)) (r.done ++ page ∷ []) new.made) (sym writer) (subst (λ (m : Made). Laid s before (written_by has sent) (r.done ++ page ∷ []) m) (sym made) laid_new);
        sheet = sheet ∙ h.sheet ∙ sheet_kept ∙ r.sheet;
      }

  -- all pages were made, and the rest of the PDF
  end_laid : (old kept : Press R W) (r : Reaches s has before all [] old) → Ends old.sheet old.number old.made kept.made → r.laid.sent ++ kept.made.out.items ≡ pdf s all
  end_laid old kept r ends =
      laid_whole s before (written_by has old) r.done old.made kept.made old.number r.laid (subst (λ (k : Sheet). Ends k old.number old.made kept.made) r.sheet ends) r.number ∙ ap (pdf s) (sym (r.parts ∙ append-nil r.done))

  pub ended : (old kept mid sent : Press R W) (after : Option (List ℕ)) (count : ℕ) → Reaches s has before all [] old → Ends old.sheet old.number old.made kept.made → mid ≡ kept → kept.writer ≡ old.writer → kept.number ≡ old.number → HasSent has mid sent
      → Keeps (written_by has sent) after → count ≡ sent.number → IsPaper s all before after (Ok count)
  ended old kept mid sent after count r ends e writer number_kept h' keeps is =
      let h : HasSent has kept sent = subst (λ (p : Press R W). HasSent has p sent) e h' in
      let parts : all ≡ r.done = r.parts ∙ append-nil r.done in
      let written = subst (λ (w : Counted W). Appends (has (device_of w)) (written_by has sent) kept.made.out.items) writer h.written in
      let whole = subst (Appends before (written_by has sent)) (end_laid old kept r ends) (Appends-trans before (written_by has old) (written_by has sent) r.laid.sent kept.made.out.items r.laid.written written) in (
        r.faults,
        is ∙ h.number ∙ number_kept ∙ r.number ∙ ap length (sym parts),
        Appends-kept before (written_by has sent) after (pdf s all) whole keeps,
      )

  -- it was written, but not flushed
  pub unflushed : (old kept mid sent : Press R W) (after : Option (List ℕ)) → Reaches s has before all [] old → Ends old.sheet old.number old.made kept.made → mid ≡ kept → kept.writer ≡ old.writer → kept.number ≡ old.number → HasSent has mid sent
      → Keeps (written_by has sent) after → IsPaper s all before after (Err faults.Write)
  unflushed old kept mid sent after r ends e writer number_kept h keeps =
      (tt, whole_sent before after (pdf s all) (ended old kept mid sent after sent.number r ends e writer number_kept h keeps refl).2)

  -- a part of it was written
  pub end_unsent : (old kept mid new : Press R W) (fault : PaperFault) → Reaches s has before all [] old → Ends old.sheet old.number old.made kept.made → mid ≡ kept → kept.writer ≡ old.writer → IsUnsent has mid new fault
      → IsStopped s has before all new fault
  end_unsent old kept mid new fault r ends e writer h' =
      let h : IsUnsent has kept new fault = subst (λ (p : Press R W). IsUnsent has p new fault) e h' in
      let end = end_laid old kept r ends in
      let written = subst (λ (w : Counted W). AppendsPrefix (has (device_of w)) (written_by has new) kept.made.out.items) writer h.written in
      record {
        is_fault = h.is_fault s all (omega (arith, ends.at, r.laid.at, ap length end, length-append r.laid.sent kept.made.out.items));
        written = part_sent before (written_by has old) (written_by has new) r.laid.sent kept.made.out.items (pdf s all) [] r.laid.written written (sym end ∙ sym (append-nil (r.laid.sent ++ kept.made.out.items)));
      }

pub stopped_first : {R W : Type 0} (has : W → Option (List ℕ)) (s : Sheet) (all : List (List ℕ)) (old new : Press R W) (fault : PaperFault) → new.writer ≡ old.writer → IsFault s all fault → IsStopped s has (written_by has old) all new fault
stopped_first {W = W} has s all old new fault same e = record { is_fault = e; written = subst (λ (w : Counted W). AppendsPrefix (written_by has old) (has (device_of w)) (pdf s all)) (sym same) (none_sent (written_by has old) (pdf s all)) }

-- ---- what is left of a print

-- the first part of a text that begins without the end of a part
begun : (p : ℕ → Bool) (xs ys : List ℕ) → All (λ b. p b ≡ false) xs → (first : List ℕ) × (later : List (List ℕ)) × (slice_split p (xs ++ ys) ≡ (xs ++ first) ∷ later)
begun p [] [] plain = ([], [], refl)
begun p [] (y ∷ ys) plain = by (p y) refl (begun p [] ys (λ k d h. absurd (omega (arith, h))))
  where
    by : (is_end : Bool) → p y ≡ is_end → (first : List ℕ) × (later : List (List ℕ)) × (slice_split p ys ≡ first ∷ later) → (first : List ℕ) × (later : List (List ℕ)) × (slice_split p (y ∷ ys) ≡ first ∷ later)
    by true e part = ([], slice_split p ys, slice_split-cons_yes p y ys e)
    by false e part = (y ∷ part.0, part.1, slice_split-cons_no p y ys e ∙ ap (onto_first y) part.2)
begun p (x ∷ xs) ys plain =
    let part = begun p xs ys (λ k d h. plain (suc k) d (omega (arith, h))) in
    (part.0, part.1, slice_split-cons_no p x (xs ++ ys) (plain 0 0 (omega arith)) ∙ ap (onto_first x) part.2)

other_byte : (b : ℕ) → b ≢ 12 → (b == 12) ≡ false
other_byte b ne = grind (arith, nat_tests)

too_many_bytes : (s : Sheet) (page : List ℕ) → most_page_bytes < length page → page_fault s page ≡ Some page_faults.Bytes
unfolding page_fault
too_many_bytes s page h = cond-true (nat_lt most_page_bytes (length page)) _ _ (lt-ltb most_page_bytes (length page) h)

module _ {R W : Type 0} (has : W → Option (List ℕ)) (s : Sheet) (before : Option (List ℕ)) (print : List ℕ) where
  pub to_page : (rest : List ℕ) (press : Press R W) → Reading s has before print (12 ∷ rest) press → Reaches s has before (pages print) (press.page.items ∷ pages rest) press
  to_page rest press r = subst (λ left. Reaches s has before (pages print) left press) (slice_split_at (λ b. b == 12) press.page.items 12 rest r.plain refl) r.reached

  pub to_last : (press : Press R W) → Reading s has before print [] press → Reaches s has before (pages print) (press.page.items ∷ []) press
  to_last press r = subst (λ left. Reaches s has before (pages print) left press) (ap pages (append-nil press.page.items) ∙ slice_split_none (λ b. b == 12) press.page.items r.plain) r.reached

  pub from_page : (rest : List ℕ) (press : Press R W) → Reaches s has before (pages print) (pages rest) press → press.page.items ≡ [] → Reading s has before print rest press
  from_page rest press r none = record {
    reached = subst (λ page. Reaches s has before (pages print) (pages (page ++ rest)) press) (sym none) r;
    plain = subst (λ page. All (λ b. (b == 12) ≡ false) page) (sym none) (All-nil (λ b. (b == 12) ≡ false));
  }

  -- the page that was begun, with some bytes more
  some_page : (rest : List ℕ) (press : Press R W) → Reading s has before print rest press → (first : List ℕ) × (later : List (List ℕ)) × Reaches s has before (pages print) ((press.page.items ++ first) ∷ later) press
  some_page rest press r =
      let part = begun (λ b. b == 12) press.page.items rest r.plain in
      (part.0, part.1, subst (λ left. Reaches s has before (pages print) left press) part.2 r.reached)

  pub page_too_many : (rest : List ℕ) (press : Press R W) → Reading s has before print rest press → most_pages ≤ press.number → IsStopped s has before (pages print) press faults.Pages
  page_too_many rest press r h =
      let part = some_page rest press r in
      stopped has s before (pages print) (pages (press.page.items ++ rest)) press press faults.Pages r.reached refl (too_many has s before (pages print) part.1 (press.page.items ++ part.0) press part.2 h)

  pub page_too_long : (b : ℕ) (rest : List ℕ) (press : Press R W) → Reading s has before print (b ∷ rest) press → b ≢ 12 → press.number < most_pages → most_page_bytes ≤ length press.page.items
      → IsStopped s has before (pages print) press (faults.Page (press.number + 1) page_faults.Bytes)
  page_too_long b rest press r differs few long =
      let other = other_byte b differs in
      let plain : All (λ x. (x == 12) ≡ false) (press.page.items ++ b ∷ []) = All-append (λ x. (x == 12) ≡ false) press.page.items (b ∷ []) r.plain (All-cons (λ x. (x == 12) ≡ false) b [] other (All-nil (λ x. (x == 12) ≡ false))) in
      let part = begun (λ x. x == 12) (press.page.items ++ b ∷ []) rest plain in
      let reached = subst (λ left. Reaches s has before (pages print) left press) (ap pages (sym (append_assoc press.page.items (b ∷ []) rest)) ∙ part.2) r.reached in
      let past : most_page_bytes < length (press.page.items ++ b ∷ [] ++ part.0) = omega (arith, long, length-append (press.page.items ++ b ∷ []) part.0, length-append press.page.items (b ∷ [])) in
      stopped has s before (pages print) (pages (press.page.items ++ b ∷ rest)) press press (faults.Page (press.number + 1) page_faults.Bytes) r.reached refl
      (page_faulty has s before (pages print) part.1 (press.page.items ++ b ∷ [] ++ part.0) press page_faults.Bytes reached few (too_many_bytes press.sheet (press.page.items ++ b ∷ [] ++ part.0) past))

  pub byte_taken : (b : ℕ) (rest : List ℕ) (old new : Press R W) → Reading s has before print (b ∷ rest) old → (b == 12) ≡ false → new.page.items ≡ old.page.items ++ b ∷ [] → new.number ≡ old.number → new.made ≡ old.made
      → new.writer ≡ old.writer → new.sheet ≡ old.sheet → Reading s has before print rest new
  byte_taken b rest old new r other page number made writer sheet =
      let whole : old.page.items ++ b ∷ rest ≡ new.page.items ++ rest = sym (append_assoc old.page.items (b ∷ []) rest) ∙ ap (λ t. t ++ rest) (sym page) in
      record {
        reached = record {
          done = r.reached.done;
          parts = r.reached.parts ∙ ap (λ t. r.reached.done ++ pages t) whole;
          faults = r.reached.faults ∙ ap (λ t. pages_fault s (length r.reached.done) (pages t)) whole;
          number = number ∙ r.reached.number;
          laid = subst (λ (w : Counted W). Laid s before (has (device_of w)) r.reached.done new.made) (sym writer) (subst (λ m. Laid s before (written_by has old) r.reached.done m) (sym made) r.reached.laid);
          sheet = sheet ∙ r.reached.sheet;
        };
        plain = subst (λ t. All (λ x. (x == 12) ≡ false) t) (sym page) (All-append (λ x. (x == 12) ≡ false) old.page.items (b ∷ []) r.plain (All-cons (λ x. (x == 12) ≡ false) b [] other (All-nil (λ x. (x == 12) ≡ false))));
      }

  -- the page that was begun ends
  pub page_ended : (byte : ℕ) (rest : List ℕ) (old new : Press R W) (r : Result (Unit {0}) PaperFault) → Reading s has before print (byte ∷ rest) old → byte ≡ 12
      → ((all later : List (List ℕ)) → Reaches s has before all (old.page.items ∷ later) old → MatchResult r (λ _. Reaches s has before all later new) (IsStopped s has before all new)) → OnOk r ((new.reader ≡ old.reader) × (new.page.items ≡ []) × (new.number ≡ old.number + 1))
      → MatchResult r (λ _. Reading s has before print rest new) (IsStopped s has before (pages print) new)
  page_ended byte rest old new (Ok x) h is does moved =
      from_page rest new (does (pages print) (pages rest) (to_page rest old (subst (λ (b : ℕ). Reading s has before print (b ∷ rest) old) is h))) moved.1
  page_ended byte rest old new (Err e) h is does moved =
      does (pages print) (pages rest) (to_page rest old (subst (λ (b : ℕ). Reading s has before print (b ∷ rest) old) is h))

  -- another byte, if there is memory for it
  pub byte_kept : {E : Type 0} (byte : ℕ) (rest : List ℕ) (old kept new : Press R W) (r : Result (Unit {0}) PaperFault) (pushed : Result (Unit {0}) E) → Reading s has before print (byte ∷ rest) old → byte ≢ 12
      → kept.page.items ≡ (if is_ok pushed then old.page.items ++ byte ∷ [] else old.page.items) → kept.number ≡ old.number → kept.made ≡ old.made → kept.writer ≡ old.writer → kept.sheet ≡ old.sheet
      → IfOk r (λ x. (pushed ≡ Ok x) × (new ≡ kept)) → IfErr r (λ e. (new.writer ≡ kept.writer) × ((t : Sheet) (all : List (List ℕ)) → IsFault t all e))
      → MatchResult r (λ _. Reading s has before print rest new) (IsStopped s has before (pages print) new)
  byte_kept byte rest old kept new (Ok x) pushed h other page number made writer sheet ok err =
      subst (λ (p : Press R W). Reading s has before print rest p) (sym ok.1)
      (byte_taken byte rest old kept h (other_byte byte other) (page ∙ ap (λ p. if is_ok p then old.page.items ++ byte ∷ [] else old.page.items) ok.0) number made writer sheet)
  byte_kept byte rest old kept new (Err e) pushed h other page number made writer sheet ok err =
      stopped has s before (pages print) (pages (old.page.items ++ byte ∷ rest)) old new e h.reached (err.0 ∙ writer) (err.1 s (pages print))

  -- a read changes the reader alone
  pub reader_moved : (rest left : List ℕ) (old new : Press R W) → Reading s has before print rest old → rest ≡ left → new.page ≡ old.page → new.number ≡ old.number → new.made ≡ old.made → new.writer ≡ old.writer
      → new.sheet ≡ old.sheet → Reading s has before print left new
  reader_moved rest left old new r is page number made writer sheet =
      let whole : old.page.items ++ rest ≡ new.page.items ++ left = ap₂ (λ (v : Vec ℕ Global) (t : List ℕ). v.items ++ t) (sym page) is in
      record {
        reached = record {
          done = r.reached.done;
          parts = r.reached.parts ∙ ap (λ t. r.reached.done ++ pages t) whole;
          faults = r.reached.faults ∙ ap (λ t. pages_fault s (length r.reached.done) (pages t)) whole;
          number = number ∙ r.reached.number;
          laid = subst (λ (w : Counted W). Laid s before (has (device_of w)) r.reached.done new.made) (sym writer) (subst (λ (m : Made). Laid s before (written_by has old) r.reached.done m) (sym made) r.reached.laid);
          sheet = sheet ∙ r.reached.sheet;
        };
        plain = subst (λ (v : Vec ℕ Global). All (λ x. (x == 12) ≡ false) v.items) (sym page) r.plain;
      }

  pub unread : (old kept new : Press R W) → before ≡ written_by has old → IsFresh s old → Begins old.made kept.made → new ≡ kept → kept.writer ≡ old.writer → kept.page ≡ old.page → kept.number ≡ old.number → kept.sheet ≡ old.sheet
      → Reading s has before print print new
  unread old kept new start fresh begun e writer page number sheet =
      let laid = laid_first s (written_by has old) old.made kept.made fresh.out fresh.entries fresh.at begun in
      subst (λ (p : Press R W). Reading s has before print print p) (sym e)
      (from_page print kept
      (record {
        done = [];
        parts = refl;
        faults = refl;
        number = number ∙ fresh.number;
        laid = subst (λ (w : Counted W). Laid s before (has (device_of w)) [] kept.made) (sym writer) (subst (λ (o : Option (List ℕ)). Laid s o (written_by has old) [] kept.made) (sym start) laid);
        sheet = sheet ∙ fresh.sheet;
      })
      (ap (λ (v : Vec ℕ Global). v.items) page ∙ fresh.page))

-- ---- what was read

pub read_on : (old new : Option (List ℕ)) (rest bytes : List ℕ) → old ≡ Some rest → Consumes old new bytes → (left : List ℕ) × (new ≡ Some left) × (rest ≡ bytes ++ left)
read_on None new rest bytes e h = absurd cc
read_on (Some x) None rest bytes e h = absurd h
read_on (Some x) (Some y) rest bytes e h = (y, refl, cc)

pub at_end : (new : Option (List ℕ)) (left : List ℕ) → new ≡ Some left → IsAtEnd new → left ≡ []
at_end None left e h = absurd cc
at_end (Some x) left e h = cc

pub known_kept : {R W : Type 0} (remaining : R → Option (List ℕ)) (print : List ℕ) (a b : Press R W) → a ≡ b → known_print remaining b ≡ Some print → known_print remaining a ≡ Some print
known_kept {R = R} {W = W} remaining print a b e h = subst (λ (p : Press R W). known_print remaining p ≡ Some print) (sym e) h

abbrev failures : ℕ → ℕ → Bool → Failures
failures reads writes is_short = record { reads = reads; writes = writes; is_short = is_short }

pub same_reads : (m n writes : ℕ) (is_short : Bool) → m ≡ n → failures m writes is_short ≡ failures n writes is_short
same_reads m n writes is_short e = ap (λ k. failures k writes is_short) e
