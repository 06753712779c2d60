-- Joining texts once and again, and what the plain view does not see.
use Rattle.std.proofs.Common.{◌≡◌, ℕ, List, [], ◌∷◌, ◌++◌, refl, sym, ap, ◌∙◌, append_assoc, append-nil}
use Rattle.wt_tree.specs.declared.kind.Showing.{Showing}
use Rattle.wt_tree.specs.declared.kind.Showing.TheVariants.{Characters, Inside, Nothing, Element}
use Rattle.wt_tree.specs.Forgets.{LikeLabels, ShowsNothing}
use Rattle.wt_tree.specs.Kinds.{showing}
use Rattle.wt_tree.specs.Tree.{Label, Tree, tree, Trees, none, more}
use Rattle.wt_tree.specs.Plain.{Face, face, Plain, text, element, Plains, ended, along, text_before, shown_before, plain, plain_before, plains_before, joined, joined_before}

text_twice : (bs cs : List ℕ) (ps : Plains) → text_before bs (text_before cs ps) ≡ text_before (bs ++ cs) ps
text_twice [] cs ps = refl
text_twice (b ∷ bs) [] ps = ap (λ (xs : List ℕ). text_before (b ∷ xs) ps) (sym (append-nil bs))
text_twice (b ∷ bs) (c ∷ cs) ended = refl
text_twice (b ∷ bs) (c ∷ cs) (along (text ds) ps) = ap (λ xs. along (text (b ∷ xs)) ps) (sym (append_assoc bs (c ∷ cs) ds))
text_twice (b ∷ bs) (c ∷ cs) (along (element f qs) ps) = refl

joined_text : (bs : List ℕ) (ps : Plains) → joined (text_before bs ps) ≡ text_before bs (joined ps)
joined_text [] ps = refl
joined_text (b ∷ bs) ended = refl
joined_text (b ∷ bs) (along (text cs) ps) = sym (text_twice (b ∷ bs) cs (joined ps))
joined_text (b ∷ bs) (along (element f qs) ps) = refl

mutual
  pub joined_again : (ps : Plains) → joined (joined ps) ≡ joined ps
  joined_again ended = refl
  joined_again (along p ps) = joined_before_again p ps (joined_again ps)

  joined_before_again : (p : Plain) (ps : Plains) → joined (joined ps) ≡ joined ps → joined (joined_before p (joined ps)) ≡ joined_before p (joined ps)
  joined_before_again (text bs) ps e = joined_text bs (joined ps) ∙ ap (text_before bs) e
  joined_before_again (element f qs) ps e = ap (λ xs. along (element f xs) (joined (joined ps))) (joined_again qs)
      ∙ ap (λ ys. along (element f (joined qs)) ys) e

by_showing : (s : Showing) (l : Label) (held : Plains → Plains) (rest : Plains)
    → ((ps : Plains) → joined ps ≡ ps → joined (held ps) ≡ held ps) → joined rest ≡ rest
    → joined (shown_before s l held rest) ≡ shown_before s l held rest
by_showing Characters l held rest h e = joined_text l.shown rest ∙ ap (text_before l.shown) e
by_showing Inside l held rest h e = h rest e
by_showing Nothing l held rest h e = e
by_showing Element l held rest h e = ap (λ qs. along (element (face l) qs) (joined rest)) (h ended refl) ∙ ap (λ ps. along (element (face l) (held ended)) ps) e

mutual
  joined_plain : (t : Tree) (rest : Plains) → joined rest ≡ rest → joined (plain_before t rest) ≡ plain_before t rest
  joined_plain (tree l ts) rest e = by_showing (showing l.kind) l (λ ps. plains_before ts ps) rest (λ ps d. joined_plains ts ps d) e

  joined_plains : (ts : Trees) (rest : Plains) → joined rest ≡ rest → joined (plains_before ts rest) ≡ plains_before ts rest
  joined_plains none rest e = e
  joined_plains (more t ts) rest e = joined_plain t (plains_before ts rest) (joined_plains ts rest e)

pub plain_joined : (t : Tree) → joined (plain t) ≡ plain t
plain_joined t = joined_plain t ended refl

like_by : (s : Showing) (l m : Label) (held : Plains → Plains) (rest : Plains) → l.shown ≡ m.shown → face l ≡ face m
    → shown_before s l held rest ≡ shown_before s m held rest
like_by Characters l m held rest e f = ap (λ bs. text_before bs rest) e
like_by Inside l m held rest e f = refl
like_by Nothing l m held rest e f = refl
like_by Element l m held rest e f = ap (λ (x : Face). along (element x (held ended)) rest) f

pub labels_like : (l m : Label) (ts : Trees) → LikeLabels l m → plain (tree l ts) ≡ plain (tree m ts)
labels_like l m ts h =
    let f : face l ≡ face m = λ i. record { kind = h.kind i; attrs = h.attrs i; mw = h.mw i } in
    like_by (showing l.kind) l m (λ ps. plains_before ts ps) ended h.shown f ∙ ap (λ s. shown_before s m (λ ps. plains_before ts ps) ended) (ap showing h.kind)

by_nothing : (s : Showing) (l : Label) (held : Plains → Plains) (rest : Plains) → s ≡ Nothing → shown_before s l held rest ≡ rest
by_nothing Characters l held rest e = cc
by_nothing Inside l held rest e = cc
by_nothing Nothing l held rest e = refl
by_nothing Element l held rest e = cc

pub leaf_nothing : (t : Tree) (ts : Trees) (rest : Plains) → ShowsNothing t → plains_before (more t ts) rest ≡ plains_before ts rest
leaf_nothing (tree l us) ts rest e = by_nothing (showing l.kind) l (λ ps. plains_before us ps) (plains_before ts rest) e
