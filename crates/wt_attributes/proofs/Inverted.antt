-- What is read as an attribute is written as one.
use Rattle.std.proofs.Common.{◌≡◌, ◌<◌, ◌≤◌, ℕ, ◌+◌, ◌==◌, Bool, true, false, Option, Some, None, List, [], ◌∷◌, ◌++◌, length, take, drop, get_or, nat_lt, refl, sym, ap, ◌∙◌, subst, ◌⊎◌, inl, inr, arith, append_assoc}
use Rattle.std.specs.Prelude.{not, codes, if◌then◌else◌}
use Rattle.std.specs.List.{prefix_len}
use Rattle.std.specs.Option.{option_map}
use Rattle.std.proofs.lemmas.Bool.Decides.{nat_tests}
use Rattle.std.proofs.lemmas.List.{take-append-drop, drop_more, length-take-le}
use Rattle.std.proofs.lemmas.List.Sums.{prefix_len_stops, prefix_len-le-length}
use Rattle.wt_span.specs.Bytes.{is_blank, lower}
use Rattle.wt_tree.specs.declared.kind.AttrName.{AttrName}
use Rattle.wt_tree.specs.declared.kind.AttrName.TheVariants as attr
use Rattle.wt_attributes.specs.declared.class.ScanClass.{ScanClass}
use Rattle.wt_attributes.specs.declared.class.ScanClass.TheVariants as class
use Rattle.wt_attributes.specs.Classes.{is_bare, run_len}
use Rattle.wt_attributes.specs.Attributes.{Named, Read, begins_any_case, after_word, name_at, quoted, bare, after_sign, opened, value_at, past_blanks, after_equals, value_in, assigned, with_name, with_value, attribute_at}
use Rattle.wt_attributes.specs.Spelled.{Value, Spelled, spell_value, spell, characters_of, meaning, IsName, Each, EndsAt, IsValue, IsSpelled}
use Rattle.wt_attributes.specs.Spelled.{quoted as in_quotes, bare as without_quotes}
use Rattle.wt_attributes.proofs.Runs.{each_taken, ends_dropped}
use Rattle.wt_attributes.proofs.Fronts.{if_some, or_some, some_same, lt_of_test, ended_some, word_is}

-- ---- names

record HasName (m : AttrName) (bs rest : List ℕ) : Type 0 where
  word : List ℕ
  named : IsName m (lower word)
  joined : bs ≡ word ++ rest

one_name : (m n : AttrName) (w bs rest : List ℕ) → ((v : List ℕ) → lower v ≡ lower w → IsName n (lower v))
    → after_word n w bs ≡ Some (m, rest) → HasName m bs rest
one_name m n w bs rest is e =
    let h = if_some (begins_any_case w bs) (n, drop (length w) bs) (m, rest) e in
    let same : n ≡ m = ap (λ (p : AttrName × List ℕ). p.0) h.1 in
    let left : drop (length w) bs ≡ rest = ap (λ (p : AttrName × List ℕ). p.1) h.1 in
    record {
      word = take (length w) bs;
      named = subst (λ (k : AttrName). IsName k (lower (take (length w) bs))) same (is _ (word_is w bs h.0));
      joined = sym (take-append-drop (length w) bs) ∙ ap (λ (l : List ℕ). take (length w) bs ++ l) left;
    }

name_written : (m : AttrName) (bs rest : List ℕ) → name_at bs ≡ Some (m, rest) → HasName m bs rest
unfolding name_at
name_written m bs rest e =
    elim (or_some _ _ (m, rest) e) [
      | inl a ↦ one_name m attr.Class (codes "class") bs rest (λ v h. h) a
      | inr b ↦ elim (or_some _ _ (m, rest) b) [
        | inl a ↦ one_name m attr.Colspan (codes "colspan") bs rest (λ v h. h) a
        | inr b2 ↦ elim (or_some _ _ (m, rest) b2) [
          | inl a ↦ one_name m attr.Rowspan (codes "rowspan") bs rest (λ v h. h) a
          | inr b3 ↦ elim (or_some _ _ (m, rest) b3) [
            | inl a ↦ one_name m attr.Scope (codes "scope") bs rest (λ v h. h) a
            | inr b4 ↦ elim (or_some _ _ (m, rest) b4) [
              | inl a ↦ one_name m attr.Lang (codes "lang") bs rest (λ v h. h) a
              | inr b5 ↦ one_name m attr.Dir (codes "dir") bs rest (λ v h. h) b5
            ]
          ]
        ]
      ]
    ]

-- ---- values

record HasValue (v bs rest : List ℕ) : Type 0 where
  value : Value
  good : IsValue value rest
  joined : bs ≡ spell_value value ++ rest
  shown : v ≡ characters_of value

is_quote : (b q : ℕ) → not (b == q) ≡ false → b ≡ q
is_quote b q e = grind (arith, nat_tests)

is_sign : (b q : ℕ) → (b == q) ≡ true → b ≡ q
is_sign b q e = grind (arith, nat_tests)

cut_at : (bs : List ℕ) (n q : ℕ) → n < length bs → get_or bs n 0 ≡ q → bs ≡ (take n bs ++ q ∷ []) ++ drop (n + 1) bs
cut_at bs n q l e =
    sym (take-append-drop n bs) ∙ ap (λ (r : List ℕ). take n bs ++ r) (drop_more bs n 0 l ∙ ap (λ (b : ℕ). b ∷ drop (n + 1) bs) e)
    ∙ sym (append_assoc (take n bs) (q ∷ []) (drop (n + 1) bs))

-- in quotes, by a class that is all but the quote
quoted_written : (c : ScanClass) (q : ℕ) (bs v rest : List ℕ) → (q ≡ 34) ⊎ (q ≡ 39) → run_len c bs ≡ prefix_len (λ b. not (b == q)) bs
    → quoted c bs ≡ Some (v, rest) → HasValue v (q ∷ bs) rest
unfolding quoted
quoted_written c q bs v rest h is e =
    let p : ℕ → Bool = λ b. not (b == q) in
    let n = prefix_len p bs in
    let cut = ended_some n bs v rest (ap (λ (k : ℕ). if nat_lt k (length bs) then Some (take k bs, drop (k + 1) bs) else None) (sym is) ∙ e) in
    let there : get_or bs n 0 ≡ q = is_quote _ q (prefix_len_stops p bs 0 cut.0) in
    record {
      value = in_quotes q v;
      good = (h, subst (Each p) cut.1 (each_taken p bs));
      joined = ap (λ (l : List ℕ). q ∷ l) (cut_at bs n q cut.0 there ∙ ap (λ (l : List ℕ). (l ++ q ∷ []) ++ drop (n + 1) bs) cut.1
          ∙ ap (λ (l : List ℕ). (v ++ q ∷ []) ++ l) cut.2);
      shown = refl;
    }

some_bare : (bs : List ℕ) (n : ℕ) (v : List ℕ) → 0 < n → n ≤ length bs → take n bs ≡ v → 0 < length v
some_bare bs n v p l e = omega (arith, length-take-le n bs l, ap length e)

bare_written : (bs v rest : List ℕ) → bare bs ≡ Some (v, rest) → HasValue v bs rest
unfolding bare
bare_written bs v rest e =
    let n = prefix_len is_bare bs in
    let h = if_some (nat_lt 0 n) (take n bs, drop n bs) (v, rest) e in
    let front : take n bs ≡ v = ap (λ (p : List ℕ × List ℕ). p.0) h.1 in
    let back : drop n bs ≡ rest = ap (λ (p : List ℕ × List ℕ). p.1) h.1 in
    let joined : bs ≡ v ++ rest = sym (take-append-drop n bs) ∙ ap (λ (l : List ℕ). l ++ drop n bs) front ∙ ap (λ (l : List ℕ). v ++ l) back in
    record {
      value = without_quotes v;
      good = (
        some_bare bs n v (lt_of_test _ _ h.0) (prefix_len-le-length is_bare bs) front,
        subst (Each is_bare) front (each_taken is_bare bs),
        subst (EndsAt is_bare) back (ends_dropped is_bare bs),
      );
      joined = joined;
      shown = refl;
    }

sign_by : (t : Bool) (s b : ℕ) (bs rest : List ℕ) → (b == s) ≡ t → (if t then Some bs else None) ≡ Some rest → b ∷ bs ≡ s ∷ rest
sign_by true s b bs rest is e = ap (λ (q : ℕ). q ∷ bs) (is_sign b s is) ∙ ap (λ (l : List ℕ). s ∷ l) (some_same bs rest e)
sign_by false s b bs rest is e = absurd cc

sign_written : (s : ℕ) (bs rest : List ℕ) → after_sign s bs ≡ Some rest → bs ≡ s ∷ rest
sign_written s [] rest e = absurd cc
sign_written s (b ∷ bs) rest e = sign_by (b == s) s b bs rest refl e

value_by : (o p : Option (List ℕ)) (bs v rest : List ℕ) → after_sign 34 bs ≡ o → after_sign 39 bs ≡ p → opened o p bs ≡ Some (v, rest) → HasValue v bs rest
value_by (Some inside) p bs v rest d s e = subst (λ (l : List ℕ). HasValue v l rest) (sym (sign_written 34 bs inside d))
    (quoted_written class.NoDouble 34 inside v rest (inl refl) refl e)
value_by None (Some inside) bs v rest d s e = subst (λ (l : List ℕ). HasValue v l rest) (sym (sign_written 39 bs inside s))
    (quoted_written class.NoSingle 39 inside v rest (inr refl) refl e)
value_by None None bs v rest d s e = bare_written bs v rest e

value_written : (bs v rest : List ℕ) → value_at bs ≡ Some (v, rest) → HasValue v bs rest
unfolding value_at
value_written bs v rest e = value_by (after_sign 34 bs) (after_sign 39 bs) bs v rest refl refl e

-- ---- a value that is given

record HasGiven (v bs rest : List ℕ) : Type 0 where
  before : List ℕ
  after : List ℕ
  value : Value
  blank_before : Each is_blank before
  blank_after : Each is_blank after
  good : IsValue value rest
  joined : bs ≡ before ++ (61 ∷ (after ++ (spell_value value ++ rest)))
  shown : v ≡ characters_of value

past_joined : (bs : List ℕ) → bs ≡ take (run_len class.Blank bs) bs ++ past_blanks bs
unfolding past_blanks
past_joined bs = sym (take-append-drop (run_len class.Blank bs) bs)

given_by : (t : Bool) (bs before : List ℕ) (b : ℕ) (cs v rest : List ℕ) → Each is_blank before → bs ≡ before ++ (b ∷ cs) → (b == 61) ≡ t
    → value_in (option_map past_blanks (if t then Some cs else None)) ≡ Some (v, rest) → HasGiven v bs rest
given_by false bs before b cs v rest h j s e = absurd cc
given_by true bs before b cs v rest h j s e =
    let w = value_written (past_blanks cs) v rest e in
    let gap = take (run_len class.Blank cs) cs in
    record {
      before = before;
      after = gap;
      value = w.value;
      blank_before = h;
      blank_after = each_taken is_blank cs;
      good = w.good;
      joined = j ∙ ap (λ (q : ℕ). before ++ (q ∷ cs)) (is_sign b 61 s)
          ∙ ap (λ (l : List ℕ). before ++ (61 ∷ l)) (past_joined cs ∙ ap (λ (l : List ℕ). gap ++ l) w.joined);
      shown = w.shown;
    }

given_at : (bs before cs v rest : List ℕ) → Each is_blank before → bs ≡ before ++ cs → value_in (after_equals cs) ≡ Some (v, rest) → HasGiven v bs rest
given_at bs before [] v rest h j e = absurd cc
given_at bs before (b ∷ cs) v rest h j e = given_by (b == 61) bs before b cs v rest h j refl e

given_written : (bs v rest : List ℕ) → assigned bs ≡ Some (v, rest) → HasGiven v bs rest
unfolding assigned
given_written bs v rest e = given_at bs (take (run_len class.Blank bs) bs) (past_blanks bs) v rest (each_taken is_blank bs) (past_joined bs) e

-- ---- attributes

pub record IsWritten (bs : List ℕ) (a : Named) (rest : List ℕ) : Type 0 where
  pub it : Spelled
  pub good : IsSpelled it rest
  pub joined : bs ≡ spell it ++ rest
  pub means : a ≡ meaning it

spell_joined : (w b a v rest : List ℕ) → w ++ (b ++ (61 ∷ (a ++ (v ++ rest)))) ≡ (w ++ (b ++ (61 ∷ (a ++ v)))) ++ rest
spell_joined w b a v rest = simp append_assoc

with_given : (m : AttrName) (bs cs : List ℕ) (o : Read (List ℕ)) (a : Named) (rest : List ℕ) → HasName m bs cs → assigned cs ≡ o
    → with_name m o ≡ Some (a, rest) → IsWritten bs a rest
with_given m bs cs None a rest n is e = absurd cc
with_given m bs cs (Some (v, left)) a rest n is e =
    let same : (m, v) ≡ a = ap (λ (p : Named × List ℕ). p.0) (some_same (((m, v), left)) (a, rest) e) in
    let end : left ≡ rest = ap (λ (p : Named × List ℕ). p.1) (some_same (((m, v), left)) (a, rest) e) in
    let g = given_written cs v rest (is ∙ ap (λ (l : List ℕ). Some (v, l)) end) in
    record {
      it = record { name = m; word = n.word; before = g.before; after = g.after; value = g.value };
      good = record { named = n.named; blank_before = g.blank_before; blank_after = g.blank_after; valued = g.good };
      joined = n.joined ∙ ap (λ (l : List ℕ). n.word ++ l) g.joined ∙ spell_joined n.word g.before g.after (spell_value g.value) rest;
      means = sym same ∙ ap (λ (x : List ℕ). (m, x)) g.shown;
    }

with_read : (bs : List ℕ) (o : Read AttrName) (a : Named) (rest : List ℕ) → name_at bs ≡ o → with_value o ≡ Some (a, rest) → IsWritten bs a rest
with_read bs None a rest is e = absurd cc
with_read bs (Some (m, cs)) a rest is e = with_given m bs cs (assigned cs) a rest (name_written m bs cs is) refl e

pub attribute_written : (bs : List ℕ) (a : Named) (rest : List ℕ) → attribute_at bs ≡ Some (a, rest) → IsWritten bs a rest
unfolding attribute_at
attribute_written bs a rest e = with_read bs (name_at bs) a rest refl e

-- an attribute has a first byte, and what is left stands behind it
pub record HasFront (bs rest : List ℕ) : Type 0 where
  pub first : ℕ
  pub others : List ℕ
  pub joined : bs ≡ first ∷ (others ++ rest)

front_by : (w more rest : List ℕ) → HasFront ((w ++ (61 ∷ more)) ++ rest) rest
front_by [] more rest = record { first = 61; others = more; joined = refl }
front_by (b ∷ w) more rest = record { first = b; others = w ++ (61 ∷ more); joined = refl }

pub attribute_front : (bs : List ℕ) (a : Named) (rest : List ℕ) → attribute_at bs ≡ Some (a, rest) → HasFront bs rest
attribute_front bs a rest e =
    let w = attribute_written bs a rest e in
    let s = w.it in
    let more = s.after ++ spell_value s.value in
    let h = front_by (s.word ++ s.before) more rest in
    let again : spell s ++ rest ≡ ((s.word ++ s.before) ++ (61 ∷ more)) ++ rest =
    ap (λ (l : List ℕ). l ++ rest) (sym (append_assoc s.word s.before (61 ∷ more))) in
    record { first = h.first; others = h.others; joined = w.joined ∙ again ∙ h.joined }
