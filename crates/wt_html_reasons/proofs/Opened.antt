-- A document that is written in part, in the words of what is open there.
use Rattle.std.proofs.Common.{◌≡◌, ℕ, suc, List, [], ◌∷◌, ◌++◌, length, refl, sym, ap, ◌∙◌, subst, append_assoc, arith}
use Rattle.wt_html_grammar.specs.Signs.{is_among}
use Rattle.wt_html_grammar.specs.Grammar.{Piece, Attribute, spell_attributes, Head, spell_head, IsHead}
use Rattle.wt_html_grammar.proofs.Partial.{Level as PartLevel, Opening, p_value, opened, levels, in_tag, written, names_of as part_names, IsLevel as IsPartLevel, AreLevels as ArePartLevels, IsOpening, Sound}
use Rattle.wt_html_reasons.specs.Written.{Level, IsLevel, spell_levels, AreLevels, Within, InContents, names_of, InStartTag, spell_unended, InValue}

abbrev pub level_of : PartLevel → Level
level_of l = record { name = l.name; attributes = l.attributes; gap = l.gap; contents = l.items }

abbrev pub levels_of : List PartLevel → List Level
levels_of [] = []
levels_of (l ∷ ls) = level_of l ∷ levels_of ls

spelled : (ls : List PartLevel) → spell_levels (levels_of ls) ≡ levels ls
spelled [] = refl
spelled (l ∷ ls) = ap (λ x. x ++ opened l) (spelled ls)

pub as_many : (ls : List PartLevel) → length (levels_of ls) ≡ length ls
as_many [] = refl
as_many (l ∷ ls) = ap suc (as_many ls)

are_levels : (ls : List PartLevel) → ArePartLevels ls → AreLevels (levels_of ls)
are_levels [] h = tt
are_levels (l ∷ ls) h = (let P : ℕ → Type 0 = λ k. IsLevel k (level_of l) in subst P (sym (as_many ls)) h.0, are_levels ls h.1)

pub within : (h : Head) (ls : List PartLevel) → IsHead h → ArePartLevels ls → Within (levels_of ls) (spell_head h ++ levels ls)
within h ls i a = (are_levels ls a, (h, i, ap (λ x. spell_head h ++ x) (sym (spelled ls))))

pub in_contents : (h : Head) (l : PartLevel) (ls : List PartLevel) → IsHead h → IsPartLevel (length ls) l → ArePartLevels ls
    → InContents (spell_head h ++ (levels ls ++ opened l))
in_contents h l ls i il ils = (level_of l, levels_of ls, within h (l ∷ ls) i (il, ils))

-- behind a start tag's attributes
abbrev pub tag_bytes : Head → Opening → List ℕ
tag_bytes h o = spell_head h ++ (levels o.outer ++ (60 ∷ (o.name ++ spell_attributes o.attributes)))

pub in_start_tag : (h : Head) (o : Opening) → IsHead h → IsOpening o → InStartTag o.attributes (tag_bytes h o)
in_start_tag h o i s = (
  levels_of o.outer,
  spell_head h ++ levels o.outer,
  o.name,
  within h o.outer i s.3,
  omega (arith, as_many o.outer),
  s.1,
  s.2,
  sym (append_assoc (spell_head h) (levels o.outer) (60 ∷ (o.name ++ spell_attributes o.attributes))),
)

pub tag_and : (h : Head) (o : Opening) (more : List ℕ) → spell_head h ++ in_tag o more ≡ tag_bytes h o ++ more
tag_and h o more = simp append_assoc

pub names_same : (xs : List Attribute) → part_names xs ≡ names_of xs
names_same [] = refl
names_same (x ∷ xs) = ap (λ ns. x.name ∷ ns) (names_same xs)

pub in_value : (h : Head) (o : Opening) (g a lg rg : List ℕ) (q : ℕ) (ps : List Piece) → IsHead h
    → Sound (p_value o g a lg rg q ps) → InValue (spell_head h ++ written (p_value o g a lg rg q ps))
in_value h o g a lg rg q ps i s =
    let x : Attribute = record { gap = g; name = a; left = lg; right = rg; quote = q; value = ps } in (
      o.attributes,
      tag_bytes h o,
      x,
      in_start_tag h o i s.0,
      (s.1, s.2, s.4, s.5, s.6, s.7),
      ap (is_among a) (sym (names_same o.attributes)) ∙ s.3,
      tag_and h o (spell_unended x),
    )
