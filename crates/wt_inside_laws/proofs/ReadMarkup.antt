-- The elements that HTML stands for: no text in them is empty, each is UTF-8, and an element without an end tag holds nothing.
use Rattle.std.proofs.Common.{◌≡◌, ◌≢◌, ℕ, suc, Bool, true, false, List, [], ◌∷◌, ◌++◌, refl, ap, subst}
use Rattle.std.specs.Prelude.{if◌then◌else◌, filter}
use Rattle.std.specs.Str.{IsUtf8}
use Rattle.std.proofs.lemmas.Str.{IsUtf8-append, IsUtf8-nil, IsUtf8-encode}
use Rattle.wt_html_grammar.specs.declared.names.EscapeName.{EscapeName}
use Rattle.wt_html_grammar.specs.declared.names.EscapeName.TheVariants.{Amp, Lt, Gt, Quot, Apos, Nbsp}
use Rattle.wt_html_grammar.specs.Signs.{in_text, is_void}
use Rattle.wt_html_grammar.specs.Grammar.{Piece, plain, named, number, IsPiece, Element, Items, element, void, none, sign, child, IsElement, AreItems}
use Rattle.wt_html_grammar.specs.Markup.{Markup, Markups, text, node, empty, more, unit_of, flush, meaning, contents, Stands}
use Rattle.wt_schema.specs.Sections.{is_section_name, is_mark_pair, bared, all_bared}
use Rattle.wt_schema.specs.Fit.{elements_in}

abbrev mutual
  pub IsGood : Markup → Type 0
  IsGood (text bs) = (bs ≢ []) × IsUtf8 bs
  IsGood (node name ps c) = (is_void name ≡ true → c ≡ empty) × AreGood c

  pub AreGood : Markups → Type 0
  AreGood empty = Unit {0}
  AreGood (more t ts) = IsGood t × AreGood ts

-- ---- as it is read

named_utf8 : (n : EscapeName) → IsUtf8 (unit_of (named n))
named_utf8 Amp = IsUtf8-encode 38 refl
named_utf8 Lt = IsUtf8-encode 60 refl
named_utf8 Gt = IsUtf8-encode 62 refl
named_utf8 Quot = IsUtf8-encode 34 refl
named_utf8 Apos = IsUtf8-encode 39 refl
named_utf8 Nbsp = IsUtf8-encode 160 refl

piece_utf8 : (t : ℕ → Bool) (p : Piece) → IsPiece t p → IsUtf8 (unit_of p)
piece_utf8 t (plain c) h = IsUtf8-encode c h.0
piece_utf8 t (named n) h = named_utf8 n
piece_utf8 t (number r ds) h = IsUtf8-encode _ h.3

flush_good : (run : List ℕ) (ts : Markups) → IsUtf8 run → AreGood ts → AreGood (flush run ts)
flush_good [] ts u h = h
flush_good (c ∷ cs) ts u h = ((λ e. absurd (cc), u), h)

not_both : {A : Type 0} (b : Bool) → b ≡ true → b ≡ false → A
not_both b e f = absurd (cc)

mutual
  element_good : (k : ℕ) (e : Element) → IsElement k e → IsGood (meaning e)
  element_good k (element name ps gap items end) h = (λ v. not_both (is_void name) v h.6, items_good (suc k) [] items h.4 IsUtf8-nil)
  element_good k (void name ps gap end) h = (λ v. refl, tt)

  items_good : (k : ℕ) (run : List ℕ) (items : Items) → AreItems k items → IsUtf8 run → AreGood (contents run items)
  items_good k run none h u = flush_good run empty u tt
  items_good k run (sign p items) h u = items_good k (run ++ unit_of p) items h.1 (IsUtf8-append run (unit_of p) u (piece_utf8 in_text p h.0))
  items_good k run (child e items) h u =
      flush_good run (more (meaning e) (contents [] items)) u (element_good k e h.0, items_good k [] items h.1 IsUtf8-nil)

pub stands_good : (bytes : List ℕ) (m : Markup) → Stands bytes m → IsGood m
stands_good bytes m (d, w, b, e) = subst IsGood e (element_good 0 d.root w.1)

-- ---- where sections are bare

mutual
  bared_good : (t : Markup) → IsGood t → IsGood (bared t)
  bared_good (text bs) h = h
  bared_good (node name ps c) h = by_name (is_section_name name) (all_bared_good c h.1)
    where
      by_name : (b : Bool) → AreGood (all_bared c) → IsGood (if b then node name (filter is_mark_pair ps) (all_bared c) else node name ps c)
      by_name true g = ((λ v. ap all_bared (h.0 v)), g)
      by_name false g = h

  pub all_bared_good : (ts : Markups) → AreGood ts → AreGood (all_bared ts)
  all_bared_good empty h = tt
  all_bared_good (more t ts) h = (bared_good t h.0, all_bared_good ts h.1)

pub elements_good : (ts : Markups) → AreGood ts → AreGood (elements_in ts)
elements_good empty h = tt
elements_good (more (text bs) ts) h = elements_good ts h.1
elements_good (more (node name ps c) ts) h = (h.0, elements_good ts h.1)
