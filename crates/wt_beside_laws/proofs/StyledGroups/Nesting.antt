-- What a call gives may be in bold or italic, where none of its styles is of that kind.
use Rattle.std.proofs.Common.{◌≡◌, ℕ, Bool, true, false, Option, List, [], ◌∷◌, ◌++◌, map, refl, subst, sym, ◌||◌}
use Rattle.wt_tree.specs.EditShapes.{edit_shape}
use Rattle.wt_tree.specs.declared.edit_shape.InlineForm.{InlineForm}
use Rattle.wt_tree.specs.declared.edit_shape.InlineForm.TheVariants as inline
use Rattle.wt_span.proofs.RunLaws.{runs_are}
use Rattle.wt_span.specs.Runs.{AreRuns, IsRun, runs}
use Rattle.wt_inline.specs.ItemTree.{ItemTree, ItemTrees, forest, further, inner, nothing}
use Rattle.wt_inline.specs.Parts.{Part, child, children, loose, node, one_leaf}
use Rattle.wt_inline.specs.declared.loose.Loose.{Loose}
use Rattle.wt_beside_laws.specs.RoundCalls.{IsUnstyledForm}
use Rattle.wt_beside_laws.specs.StyledCalls.{AreUnstyledParts, NestIn, NestsBy, NestsIn, PartsNestIn}

pub neither : (x y : Bool) → x ≡ false → y ≡ false → (x || y) ≡ false
neither true y e f = e
neither false y e f = f

-- ---- among others

pub nest_rest : (bold italic : Bool) (ps qs : List Part) → PartsNestIn bold italic (ps ++ qs) → PartsNestIn bold italic qs
nest_rest bold italic [] qs h = h
nest_rest bold italic (loose k o b ∷ ps) qs h = nest_rest bold italic ps qs h
nest_rest bold italic (node t ∷ ps) qs h = nest_rest bold italic ps qs h.1

-- ---- the parts of a node, by its children

past_run : (bold italic : Bool) (k : Loose) (o : Option ℕ) (b : ℕ) (r others : List Part) → IsRun one_leaf (loose k o b ∷ r) others
    → PartsNestIn bold italic others → PartsNestIn bold italic (r ++ others)
past_run bold italic k o b [] others run h = h
past_run bold italic k o b (loose j i c ∷ r) others run h = past_run bold italic j i c r others run.1 h
past_run bold italic k o b (node x ∷ r) others run h = absurd (let no = run.0 in cc)

runs_nest : (bold italic : Bool) (rs : List (List Part)) (ps : List Part) → AreRuns one_leaf rs ps → NestIn bold italic (forest (map child rs))
    → PartsNestIn bold italic ps
runs_nest bold italic [] ps a h = subst (PartsNestIn bold italic) (sym a) tt
runs_nest bold italic ([] ∷ rs) ps a h = absurd a.2
runs_nest bold italic ((loose k o b ∷ r) ∷ rs) ps a h =
    subst (PartsNestIn bold italic) (sym a.1) (past_run bold italic k o b r a.0 a.2 (runs_nest bold italic rs a.0 a.3 h.1))
runs_nest bold italic ((node u ∷ []) ∷ rs) ps a h = subst (PartsNestIn bold italic) (sym a.1) (h.0, runs_nest bold italic rs a.0 a.3 h.1)
runs_nest bold italic ((node u ∷ p ∷ r) ∷ rs) ps a h = absurd (let no = a.2.0 in cc)

pub nest_parts : (bold italic : Bool) (ps : List Part) → NestIn bold italic (forest (children ps)) → PartsNestIn bold italic ps
unfolding children
nest_parts bold italic ps h = runs_nest bold italic (runs one_leaf ps) ps (runs_are one_leaf ps) h

-- ---- beside no style any may be

free_by : (w : InlineForm) (A : Type 0) → A → NestsBy w false false A
free_by inline.Nothing A a = tt
free_by inline.Characters A a = tt
free_by inline.Bold A a = (refl, a)
free_by inline.Italic A a = (refl, a)
free_by inline.Shown A a = tt
free_by inline.PageLink A a = tt
free_by inline.ExternalLink A a = tt
free_by inline.Tag A a = tt
free_by inline.Break A a = tt
free_by inline.AsItStood A a = tt

mutual
  free_nests : (t : ItemTree) → NestsIn false false t
  free_nests (inner h opening ts closing) = free_by (edit_shape h.kind).inline (NestIn false false ts) (free_nest ts)

  free_nest : (ts : ItemTrees) → NestIn false false ts
  free_nest nothing = tt
  free_nest (further t ts) = (free_nests t, free_nest ts)

pub parts_free : (ps : List Part) → PartsNestIn false false ps
parts_free [] = tt
parts_free (loose k o b ∷ ps) = parts_free ps
parts_free (node t ∷ ps) = (free_nests t, parts_free ps)

-- ---- in one style and in the other

both_by : (w : InlineForm) (b i c j : Bool) (A B C : Type 0) → (A → B → C) → NestsBy w b i A → NestsBy w c j B → NestsBy w (b || c) (i || j) C
both_by inline.Nothing b i c j A B C f g h = tt
both_by inline.Characters b i c j A B C f g h = tt
both_by inline.Bold b i c j A B C f g h = (neither b c g.0 h.0, f g.1 h.1)
both_by inline.Italic b i c j A B C f g h = (neither i j g.0 h.0, f g.1 h.1)
both_by inline.Shown b i c j A B C f g h = tt
both_by inline.PageLink b i c j A B C f g h = tt
both_by inline.ExternalLink b i c j A B C f g h = tt
both_by inline.Tag b i c j A B C f g h = tt
both_by inline.Break b i c j A B C f g h = tt
both_by inline.AsItStood b i c j A B C f g h = tt

mutual
  both_nests : (b i c j : Bool) (t : ItemTree) → NestsIn b i t → NestsIn c j t → NestsIn (b || c) (i || j) t
  both_nests b i c j (inner h opening ts closing) f g =
      both_by (edit_shape h.kind).inline b i c j (NestIn b i ts) (NestIn c j ts) (NestIn (b || c) (i || j) ts) (λ x y. both_nest b i c j ts x y) f g

  both_nest : (b i c j : Bool) (ts : ItemTrees) → NestIn b i ts → NestIn c j ts → NestIn (b || c) (i || j) ts
  both_nest b i c j nothing f g = tt
  both_nest b i c j (further t ts) f g = (both_nests b i c j t f.0 g.0, both_nest b i c j ts f.1 g.1)

pub parts_both : (b i c j : Bool) (ps : List Part) → PartsNestIn b i ps → PartsNestIn c j ps → PartsNestIn (b || c) (i || j) ps
parts_both b i c j [] f g = tt
parts_both b i c j (loose k o x ∷ ps) f g = parts_both b i c j ps f g
parts_both b i c j (node t ∷ ps) f g = (both_nests b i c j t f.0 g.0, parts_both b i c j ps f.1 g.1)

-- ---- without styles it may be in any

plain_by : (w : InlineForm) (b i : Bool) (A : Type 0) → IsUnstyledForm w → NestsBy w b i A
plain_by inline.Nothing b i A u = tt
plain_by inline.Characters b i A u = tt
plain_by inline.Bold b i A u = absurd u
plain_by inline.Italic b i A u = absurd u
plain_by inline.Shown b i A u = tt
plain_by inline.PageLink b i A u = tt
plain_by inline.ExternalLink b i A u = tt
plain_by inline.Tag b i A u = tt
plain_by inline.Break b i A u = tt
plain_by inline.AsItStood b i A u = tt

pub plain_nests : (b i : Bool) (ps : List Part) → AreUnstyledParts ps → PartsNestIn b i ps
plain_nests b i [] u = tt
plain_nests b i (loose k o x ∷ ps) u = plain_nests b i ps u
plain_nests b i (node (inner h opening ts closing) ∷ ps) u = (plain_by (edit_shape h.kind).inline b i (NestIn b i ts) u.0, plain_nests b i ps u.1)
