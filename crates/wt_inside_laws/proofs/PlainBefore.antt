-- Nodes that show the same show it before whatever follows.
use Rattle.std.proofs.Common.{◌≡◌, ℕ, List, [], ◌∷◌, ◌++◌, refl, sym, ap, ◌∙◌, append_assoc, append-nil}
use Rattle.wt_tree.specs.declared.kind.Showing.{Showing}
use Rattle.wt_tree.specs.declared.kind.Showing.TheVariants.{Characters, Inside, Nothing, Element}
use Rattle.wt_tree.specs.Kinds.{showing}
use Rattle.wt_tree.specs.Plain.{Plain, text, element, Plains, ended, along, text_before, shown_before, plain, plain_before, plains_before}
use Rattle.wt_tree.specs.Tree.{Label, Tree, tree, Trees, none, more}

text_twice : (bs cs : List ℕ) (ps : Plains) → text_before bs (text_before cs ps) ≡ text_before (bs ++ cs) ps
text_twice [] cs ps = refl
text_twice (b ∷ bs) [] ps = ap (λ (xs : List ℕ). text_before (b ∷ xs) ps) (sym (append-nil bs))
text_twice (b ∷ bs) (c ∷ cs) ended = refl
text_twice (b ∷ bs) (c ∷ cs) (along (text ds) ps) = ap (λ xs. along (text (b ∷ xs)) ps) (sym (append_assoc bs (c ∷ cs) ds))
text_twice (b ∷ bs) (c ∷ cs) (along (element f qs) ps) = refl

-- these, and then those, where two texts that meet are joined
abbrev first_onto : Plain → Plains → Plains
first_onto (text bs) rest = text_before bs rest
first_onto (element f qs) rest = along (element f qs) rest

abbrev onto : Plains → Plains → Plains
onto ended rest = rest
onto (along p ps) rest = first_onto p (onto ps rest)

text_onto : (bs : List ℕ) (ps rest : Plains) → onto (text_before bs ps) rest ≡ text_before bs (onto ps rest)
text_onto [] ps rest = refl
text_onto (b ∷ bs) ended rest = refl
text_onto (b ∷ bs) (along (text cs) ps) rest = sym (text_twice (b ∷ bs) cs (onto ps rest))
text_onto (b ∷ bs) (along (element f qs) ps) rest = refl

shown_onto : (s : Showing) (l : Label) (held : Plains → Plains) (ps rest : Plains) → ((qs : Plains) → onto (held qs) rest ≡ held (onto qs rest))
    → onto (shown_before s l held ps) rest ≡ shown_before s l held (onto ps rest)
shown_onto Characters l held ps rest h = text_onto l.shown ps rest
shown_onto Inside l held ps rest h = h ps
shown_onto Nothing l held ps rest h = refl
shown_onto Element l held ps rest h = refl

mutual
  plain_onto : (t : Tree) (ps rest : Plains) → onto (plain_before t ps) rest ≡ plain_before t (onto ps rest)
  plain_onto (tree l ts) ps rest = shown_onto (showing l.kind) l (λ qs. plains_before ts qs) ps rest (λ qs. plains_onto ts qs rest)

  plains_onto : (ts : Trees) (ps rest : Plains) → onto (plains_before ts ps) rest ≡ plains_before ts (onto ps rest)
  plains_onto none ps rest = refl
  plains_onto (more t ts) ps rest = plain_onto t (plains_before ts ps) rest ∙ ap (plain_before t) (plains_onto ts ps rest)

pub same_before : (t u : Tree) (rest : Plains) → plain u ≡ plain t → plain_before u rest ≡ plain_before t rest
same_before t u rest e = sym (plain_onto u ended rest) ∙ ap (λ ps. onto ps rest) e ∙ plain_onto t ended rest
