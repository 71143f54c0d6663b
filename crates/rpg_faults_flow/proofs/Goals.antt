-- F10 and F13: a GOTO's label is among those of its section.
use Rattle.std.proofs.Common.{◌≡◌, ℕ, zero, suc, ◌+◌, ◌-◌, Bool, true, false, not, cond, ◌&&◌, ◌||◌, List, [], ◌∷◌, ◌++◌, Option, None, Some, refl, sym, ap, ◌∙◌, arith, append_assoc, ◌⊎◌, inl, inr}
use Rattle.std.specs.Prelude.{find}
use Rattle.std.specs.Option.{option_map, option_map_or, option_to_list}
use Rattle.rpg_cards.specs.Statements.{Begins, Calculation, Statement}
use Rattle.rpg_cards.specs.Keys.{Key, Name}
use Rattle.rpg_cards.specs.Labels.{begins_subroutine, begun_count, brackets, ends, defined_name, is_begsr, is_endsr, is_inside_subroutine, label_named, labels_after, section_by, section_of}
use Rattle.rpg_cards.specs.declared.labels.Label.{Label}
use Rattle.rpg_cards.specs.declared.labels.Section.{Section}
use Rattle.rpg_cards.specs.declared.labels.Section.TheVariants as section_kind
use Rattle.rpg_cards.specs.Plain.{has_label}
use Rattle.rpg_cards.specs.Sections.{Subroutine, is_detail, is_same_name, is_subroutine, is_total, label_on, of_control, up_to_begin}
use Rattle.rpg_cards.specs.Groups.{joins}
use Rattle.rpg_cards.specs.declared.spec_card.SpecCard.{SpecCard}
use Rattle.rpg_faults_flow.proofs.Facts.{Facts}
use Rattle.rpg_faults_flow.proofs.Placed.{IsOther, begin_control, begun_more, begun_same, bodies, find_begin, find_label, named_so, not_begins, subs, subs_begin, subs_other, up_other, view}
use Rattle.rpg_faults_flow.proofs.Walk.{EachSplit}
use Rattle.rpg_faults_flow.specs.Order.{is_closed, unpaired}
use Rattle.std.specs.List.{last_or}
use Rattle.rpg_sheet_specs.specs.declared.calculation.ControlLevel.{ControlLevel}
use Rattle.rpg_sheet_specs.specs.declared.calculation.ControlLevel.TheVariants as control

-- ---- subroutines by their number

abbrev pub body_at : ℕ → List (Subroutine Key) → List (Calculation Key)
body_at n [] = []
body_at zero (s ∷ ss) = s.body
body_at (suc n) (s ∷ ss) = body_at n ss

abbrev pub after_at : ℕ → List (Subroutine Key) → List (Subroutine Key)
after_at zero ss = ss
after_at (suc n) [] = []
after_at (suc n) (s ∷ ss) = after_at n ss

pub body_after : (n : ℕ) (ss rest : List (Subroutine Key)) (s : Subroutine Key) → after_at n ss ≡ s ∷ rest → body_at n ss ≡ s.body
body_after zero [] rest s e = absurd cc
body_after zero (t ∷ ts) rest s e = ap (body_at 0) e
body_after (suc n) [] rest s e = absurd cc
body_after (suc n) (t ∷ ts) rest s e = body_after n ts rest s e

following_twice : (n : ℕ) (ss rest : List (Subroutine Key)) (s : Subroutine Key) → after_at n ss ≡ s ∷ rest → after_at (n + 1) ss ≡ rest
following_twice zero [] rest s e = absurd cc
following_twice zero (t ∷ ts) rest s e = ap (after_at 1) e
following_twice (suc n) [] rest s e = absurd cc
following_twice (suc n) (t ∷ ts) rest s e = ap (λ k. after_at k (t ∷ ts)) (moved n) ∙ following_twice n ts rest s e
  where
    moved : (n : ℕ) → suc n + 1 ≡ suc (n + 1)
    moved n = omega arith

-- ---- where a calculation stands among the subroutines

-- what is begun so far, what follows, and what the open subroutine has done
pub record At (all : List (Subroutine Key)) (front gs : List (Calculation Key)) : Type 0 where
  pub following : after_at (begun_count front) all ≡ subs gs
  pub done : List (Calculation Key)
  pub body : (n : ℕ) → begun_count front ≡ suc n → body_at n all ≡ done ++ up_to_begin (bodies gs)

pub at_first : (gs : List (Calculation Key)) → At (subs gs) [] gs
at_first gs = record { following = refl; done = []; body = λ n e. absurd cc }

same_suc : (m n : ℕ) → m + 1 ≡ suc n → m ≡ n
same_suc m n e = omega (arith, e)

pub at_next : (all : List (Subroutine Key)) (front : List (Calculation Key)) (g : Calculation Key) (gs : List (Calculation Key)) → unpaired front g gs ≡ false → At all front (g ∷ gs) → At all (front ++ g ∷ []) gs
at_next all front g gs paired a = by_view (view g.statement)
  where
    by_view : ((n : Option Name) × (g.statement ≡ Begins n)) ⊎ IsOther g.statement → At all (front ++ g ∷ []) gs
    by_view (inl (n, d)) =
        let s = begin_control front g gs n d paired in
        let here = a.following ∙ subs_begin g gs n d s in
        record {
          following = ap (λ k. after_at k all) (begun_more front g n d s) ∙ following_twice (begun_count front) all (subs gs) (record { name = n; body = up_to_begin (bodies gs) }) here;
          done = [];
          body = λ m e. ap (λ k. body_at k all) (sym (same_suc (begun_count front) m (sym (begun_more front g n d s) ∙ e))) ∙ body_after (begun_count front) all (subs gs) (record { name = n; body = up_to_begin (bodies gs) }) here;
        }
    by_view (inr o) = by_control (is_subroutine g.control) refl
      where
        by_control : (b : Bool) → is_subroutine g.control ≡ b → At all (front ++ g ∷ []) gs
        by_control true s = record {
          following = ap (λ k. after_at k all) (begun_same front g o.begsr) ∙ a.following ∙ subs_other g gs o.begun;
          done = a.done ++ g ∷ [];
          body = λ m e. a.body m (sym (begun_same front g o.begsr) ∙ e) ∙ ap (λ xs. a.done ++ xs) (up_other g gs o.begun ∙ ap (λ b. cond b (g ∷ up_to_begin (bodies gs)) (up_to_begin (bodies gs))) s) ∙ sym (append_assoc a.done (g ∷ []) (up_to_begin (bodies gs)));
        }
        by_control false s = record {
          following = ap (λ k. after_at k all) (begun_same front g o.begsr) ∙ a.following ∙ subs_other g gs o.begun;
          done = a.done;
          body = λ m e. a.body m (sym (begun_same front g o.begsr) ∙ e) ∙ ap (λ xs. a.done ++ xs) (up_other g gs o.begun ∙ ap (λ b. cond b (g ∷ up_to_begin (bodies gs)) (up_to_begin (bodies gs))) s);
        }

-- ---- the calculations of a section

abbrev pub part : List (Calculation Key) → List (Subroutine Key) → Section → List (Calculation Key)
part all ss section_kind.Detail = of_control is_detail all
part all ss section_kind.Total = of_control is_total all
part all ss (section_kind.Subroutine n) = body_at n ss
part all ss section_kind.Outside = []

or_right : (a b : Bool) → b ≡ true → (a || b) ≡ true
or_right true b e = refl
or_right false b e = e

or_left : (a b : Bool) → a ≡ true → (a || b) ≡ true
or_left true b e = refl
or_left false b e = absurd cc

has_after : (l : Option Name) (done gs : List (Calculation Key)) → has_label l gs ≡ true → has_label l (done ++ gs) ≡ true
has_after l [] gs e = e
has_after l (d ∷ ds) gs e = or_right (is_same_name l (label_on d.statement)) (has_label l (ds ++ gs)) (has_after l ds gs e)

has_of : (test : ControlLevel → Bool) (l : Option Name) (front : List (Calculation Key)) (g : Calculation Key) (gs : List (Calculation Key)) → test g.control ≡ true → is_same_name l (label_on g.statement) ≡ true → has_label l (of_control test (front ++ g ∷ gs)) ≡ true
has_of test l [] g gs t e = ap (λ b. has_label l (cond b (g ∷ of_control test gs) (of_control test gs))) t ∙ or_left (is_same_name l (label_on g.statement)) (has_label l (of_control test gs)) e
has_of test l (f ∷ fs) g gs t e = by (test f.control) (has_of test l fs g gs t e)
  where
    by : (b : Bool) → has_label l (of_control test (fs ++ g ∷ gs)) ≡ true → has_label l (cond b (f ∷ of_control test (fs ++ g ∷ gs)) (of_control test (fs ++ g ∷ gs))) ≡ true
    by true r = or_right (is_same_name l (label_on f.statement)) (has_label l (of_control test (fs ++ g ∷ gs))) r
    by false r = r

-- a subroutine that is open has begun
begun_by_then : (front : List (Calculation Key)) (d : Option (Calculation Key)) → option_map_or begins_subroutine (last_or d (brackets front)) false ≡ true → (option_map_or begins_subroutine d false ≡ true) ⊎ ((n : ℕ) × (begun_count front ≡ suc n))
begun_by_then [] d e = inl e
begun_by_then (f ∷ fs) d e = by (begins_subroutine f) refl (ends f) e (begun_by_then fs (Some f)) (begun_by_then fs d)
  where
    Wanted : Type 0
    Wanted = (option_map_or begins_subroutine d false ≡ true) ⊎ ((n : ℕ) × (cond (begins_subroutine f) (suc (begun_count fs)) (begun_count fs) ≡ suc n))

    more : (b : Bool) → begins_subroutine f ≡ b → ((n : ℕ) × (begun_count fs ≡ suc n)) → (n : ℕ) × (cond (begins_subroutine f) (suc (begun_count fs)) (begun_count fs) ≡ suc n)
    more true p h = (begun_count fs, ap (λ b. cond b (suc (begun_count fs)) (begun_count fs)) p)
    more false p h = (h.0, ap (λ b. cond b (suc (begun_count fs)) (begun_count fs)) p ∙ h.1)

    by : (b : Bool) → begins_subroutine f ≡ b → (c : Bool) → option_map_or begins_subroutine (last_or d (cond (b || c) (f ∷ brackets fs) (brackets fs))) false ≡ true
        → (option_map_or begins_subroutine (last_or (Some f) (brackets fs)) false ≡ true → (begins_subroutine f ≡ true) ⊎ ((n : ℕ) × (begun_count fs ≡ suc n)))
        → (option_map_or begins_subroutine (last_or d (brackets fs)) false ≡ true → (option_map_or begins_subroutine d false ≡ true) ⊎ ((n : ℕ) × (begun_count fs ≡ suc n)))
        → (option_map_or begins_subroutine d false ≡ true) ⊎ ((n : ℕ) × (cond (begins_subroutine f) (suc (begun_count fs)) (begun_count fs) ≡ suc n))
    by true p c e r q = inr (begun_count fs, ap (λ b. cond b (suc (begun_count fs)) (begun_count fs)) p)
    by false p true e r q = by_rest (r e)
      where
        by_rest : (begins_subroutine f ≡ true) ⊎ ((n : ℕ) × (begun_count fs ≡ suc n)) → (option_map_or begins_subroutine d false ≡ true) ⊎ ((n : ℕ) × (cond (begins_subroutine f) (suc (begun_count fs)) (begun_count fs) ≡ suc n))
        by_rest (inl t) = let no = sym p ∙ t in absurd cc
        by_rest (inr h) = inr (more false p h)
    by false p false e r q = by_rest (q e)
      where
        by_rest : (option_map_or begins_subroutine d false ≡ true) ⊎ ((n : ℕ) × (begun_count fs ≡ suc n)) → (option_map_or begins_subroutine d false ≡ true) ⊎ ((n : ℕ) × (cond (begins_subroutine f) (suc (begun_count fs)) (begun_count fs) ≡ suc n))
        by_rest (inl t) = inl t
        by_rest (inr h) = inr (more false p h)

pub any_begun : (front : List (Calculation Key)) → is_inside_subroutine front ≡ true → (n : ℕ) × (begun_count front ≡ suc n)
any_begun front e = by (begun_by_then front None e)
  where
    by : (false ≡ true) ⊎ ((n : ℕ) × (begun_count front ≡ suc n)) → (n : ℕ) × (begun_count front ≡ suc n)
    by (inl x) = absurd cc
    by (inr h) = h

-- a calculation of SR but BEGSR stands in an open subroutine
must_be : (s b e i c : Bool) → s ≡ true → b ≡ false → (s && (not (b || e) && not i)) ≡ false → (((b || e) && not s) || (((s && e) && not i) || ((s && b) && not c))) ≡ false → i ≡ true
must_be s b e true c p q x y = refl
must_be false b e false c p q x y = absurd cc
must_be true true e false c p q x y = absurd cc
must_be true false true false c p q x y = absurd cc
must_be true false false false c p q x y = absurd cc

pub inside_here : (cards : List SpecCard) (front : List (Calculation Key)) (g : Calculation Key) (gs : List (Calculation Key)) → Facts cards front g gs → is_subroutine g.control ≡ true → is_begsr g.statement ≡ false → is_inside_subroutine front ≡ true
inside_here cards front g gs f s b = must_be (is_subroutine g.control) (is_begsr g.statement) (is_endsr g.statement) (is_inside_subroutine front) (is_closed (brackets gs)) s b f.inside f.paired

section_inside : (front : List (Calculation Key)) (c : ControlLevel) (n : ℕ) → is_subroutine c ≡ true → is_inside_subroutine front ≡ true → begun_count front ≡ suc n → section_by front false c ≡ section_kind.Subroutine n
section_inside front control.Detail n s i e = absurd cc
section_inside front (control.Total t) n s i e = absurd cc
section_inside front control.Subroutine n s i e = ap (λ b. cond b (section_kind.Subroutine (begun_count front - 1)) section_kind.Outside) i ∙ ap section_kind.Subroutine (less (begun_count front) n e)
  where
    less : (a b : ℕ) → a ≡ suc b → a - 1 ≡ b
    less a b e = omega (arith, e)
section_inside front control.And n s i e = absurd cc
section_inside front control.Or n s i e = absurd cc

pub own_section : (front : List (Calculation Key)) (g : Calculation Key) (n : ℕ) → is_subroutine g.control ≡ true → is_begsr g.statement ≡ false → is_inside_subroutine front ≡ true → begun_count front ≡ suc n → section_of front g ≡ section_kind.Subroutine n
own_section front g n s b i e = ap (λ x. section_by front x g.control) (not_begins g b) ∙ section_inside front g.control n s i e

-- ---- labels

module _ (cards : List SpecCard) (all : List (Calculation Key)) where
  -- a label stands in its section
  has_here : (m : Name) (front : List (Calculation Key)) (g : Calculation Key) (gs : List (Calculation Key)) → all ≡ front ++ g ∷ gs → At (subs all) front (g ∷ gs) → Facts cards front g gs → IsOther g.statement
      → is_same_name (Some m) (label_on g.statement) ≡ true → has_label (Some m) (part all (subs all) (section_of front g)) ≡ true
  has_here m front g gs s a f o e = by g.control refl
    where
      section : section_of front g ≡ section_by front false g.control
      section = ap (λ x. section_by front x g.control) (not_begins g o.begsr)

      in_body : is_subroutine g.control ≡ true → has_label (Some m) (part all (subs all) (section_of front g)) ≡ true
      in_body c =
          let i = inside_here cards front g gs f c o.begsr in
          let n = any_begun front i in
          ap (λ x. has_label (Some m) (part all (subs all) x)) (own_section front g n.0 c o.begsr i n.1)
          ∙ ap (has_label (Some m)) (a.body n.0 n.1)
          ∙ has_after (Some m) a.done (up_to_begin (bodies (g ∷ gs))) (ap (has_label (Some m)) (up_other g gs o.begun ∙ ap (λ b. cond b (g ∷ up_to_begin (bodies gs)) (up_to_begin (bodies gs))) c) ∙ or_left (is_same_name (Some m) (label_on g.statement)) (has_label (Some m) (up_to_begin (bodies gs))) e)

      by : (c : ControlLevel) → g.control ≡ c → has_label (Some m) (part all (subs all) (section_of front g)) ≡ true
      by control.Detail p = ap (λ x. has_label (Some m) (part all (subs all) x)) (section ∙ ap (section_by front false) p) ∙ ap (λ x. has_label (Some m) (of_control is_detail x)) s ∙ has_of is_detail (Some m) front g gs (ap is_detail p) e
      by (control.Total t) p = ap (λ x. has_label (Some m) (part all (subs all) x)) (section ∙ ap (section_by front false) p) ∙ ap (λ x. has_label (Some m) (of_control is_total x)) s ∙ has_of is_total (Some m) front g gs (ap is_total p) e
      by control.Subroutine p = in_body (ap is_subroutine p)
      by control.And p = let no = sym (ap joins p) ∙ f.begins_group in absurd cc
      by control.Or p = let no = sym (ap joins p) ∙ f.begins_group in absurd cc

  pub label_placed : (m : Name) (front gs : List (Calculation Key)) (L : Label) → all ≡ front ++ gs → At (subs all) front gs → EachSplit (Facts cards) front gs → label_named m (labels_after front gs) ≡ Some L → L.named.is_subroutine ≡ false
      → has_label (Some m) (part all (subs all) L.section) ≡ true
  label_placed m front [] L s a h e is = absurd cc
  label_placed m front (g ∷ gs) L s a h e is =
      by_view (λ f. label_placed m (front ++ g ∷ []) gs L (s ∙ sym (append_assoc front (g ∷ []) gs)) (at_next (subs all) front g gs h.0.paired a) h.1 f is) (view g.statement)
    where
      by_view : (label_named m (labels_after (front ++ g ∷ []) gs) ≡ Some L → has_label (Some m) (part all (subs all) L.section) ≡ true) → ((n : Option Name) × (g.statement ≡ Begins n)) ⊎ IsOther g.statement → has_label (Some m) (part all (subs all) L.section) ≡ true
      by_view rec (inr o) =
          by_found (find_label m (section_of front g) (label_on g.statement) (labels_after (front ++ g ∷ []) gs) L
          (ap (λ x. find (named_so m) (option_to_list (option_map (λ n. record { named = n; section = section_of front g }) x) ++ labels_after (front ++ g ∷ []) gs)) (sym o.defined_name) ∙ e))
        where
          by_found : ((is_same_name (Some m) (label_on g.statement) ≡ true) × (L.named.is_subroutine ≡ false) × (L.section ≡ section_of front g)) ⊎ (find (named_so m) (labels_after (front ++ g ∷ []) gs) ≡ Some L) → has_label (Some m) (part all (subs all) L.section) ≡ true
          by_found (inl x) = ap (λ z. has_label (Some m) (part all (subs all) z)) x.2 ∙ has_here m front g gs s a h.0 o x.0
          by_found (inr f) = rec f
      by_view rec (inl (n, d)) =
          by_found (find_begin m (section_of front g) n (labels_after (front ++ g ∷ []) gs) L
          (ap (λ (x : Statement Key). find (named_so m) (option_to_list (option_map (λ n. record { named = n; section = section_of front g }) (defined_name x)) ++ labels_after (front ++ g ∷ []) gs)) (sym d) ∙ e))
        where
          by_found : ((is_same_name (Some m) n ≡ true) × (L.named.is_subroutine ≡ true) × (L.section ≡ section_of front g)) ⊎ ((is_same_name (Some m) n ≡ false) × (find (named_so m) (labels_after (front ++ g ∷ []) gs) ≡ Some L)) → has_label (Some m) (part all (subs all) L.section) ≡ true
          by_found (inl x) = let no = sym x.1 ∙ is in absurd cc
          by_found (inr x) = rec x.1
