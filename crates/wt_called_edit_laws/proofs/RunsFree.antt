-- Among the children of a node: one that has a byte that no group has is clean, and in no group.
use Rattle.std.proofs.Common.{arith, ◌≡◌, ◌⊎◌, inl, inr, ◌≤◌, ◌<◌, ℕ, ◌+◌, Bool, true, false, Option, List, [], ◌∷◌, ◌++◌, length, map, refl, sym, ap, ◌∙◌, subst, append-nil, length-append}
use Rattle.std.specs.Prelude.{if◌then◌else◌}
use Rattle.wt_tree.specs.declared.node.DataMw.{DataMw}
use Rattle.wt_tree.specs.Tree.{trees}
use Rattle.wt_span.specs.Items.{Item}
use Rattle.wt_span.specs.Origins.{OuterCall}
use Rattle.wt_span.specs.Runs.{runs, AreRuns}
use Rattle.wt_span.proofs.RunLaws.{runs_are}
use Rattle.wt_inline.specs.ItemTree.{ItemTrees, nothing, further, tree_items, held_by_all}
use Rattle.wt_annotated.specs.GroupParts.{Part}
use Rattle.wt_annotated.specs.Seams.{last_of, text_from}
use Rattle.wt_annotated.specs.Walked.{Near, near_tied, near_nodes, near_group, near_run, near_runs, near}
use Rattle.wt_annotated.proofs.Seams.{text_append_from}
use Rattle.wt_called_edit_laws.specs.Covered.{NoGroupAt, NoneGroupAt}

-- ---- children, one after the other

abbrev Follow : List OuterCall → Option ℕ → ℕ → List Near → Type 0
Follow calls o at [] = Unit {0}
Follow calls o at (c ∷ cs) =
    (c.before ≡ o) × (c.byte ≡ at) × Follow calls (last_of o (tree_items c.tree)) (at + length (text_from calls o (tree_items c.tree))) cs

near_follow : (calls : List OuterCall) (carried : List Part → Option DataMw) (o : Option ℕ) (at : ℕ) (p : Option ℕ) (ts : ItemTrees)
    → Follow calls o at (near calls carried o at p ts)
near_follow calls carried o at p nothing = tt
near_follow calls carried o at p (further t ts) =
    (refl, refl, near_follow calls carried (last_of o (tree_items t)) (at + length (text_from calls o (tree_items t))) p ts)

-- some of them, and those behind
follow_split : (calls : List OuterCall) (o : Option ℕ) (at : ℕ) (ks us : List Near) → Follow calls o at (ks ++ us)
    → Follow calls o at ks × ((x : Option ℕ) × (i : ℕ) × Follow calls x i us)
follow_split calls o at [] us f = (tt, (o, at, f))
follow_split calls o at (k ∷ ks) us f =
    let r = follow_split calls (last_of o (tree_items k.tree)) (at + length (text_from calls o (tree_items k.tree))) ks us f.2 in ((f.0, f.1, r.0), r.1)

-- ---- a byte of a child

abbrev pub HasByte : List OuterCall → ℕ → Near → Type 0
HasByte calls b c = (c.byte ≤ b) × (b < c.byte + length (text_from calls c.before (tree_items c.tree)))

abbrev pub IsFreeAt : List OuterCall → ℕ → Near → Type 0
IsFreeAt calls b c = HasByte calls b c → (c.clean ≡ true) × NoGroupAt b c.whole

abbrev pub AreFreeAt : List OuterCall → ℕ → List Near → Type 0
AreFreeAt calls b [] = Unit {0}
AreFreeAt calls b (c ∷ cs) = IsFreeAt calls b c × AreFreeAt calls b cs

free_both : (calls : List OuterCall) (b : ℕ) (ks us : List Near) → AreFreeAt calls b ks → AreFreeAt calls b us → AreFreeAt calls b (ks ++ us)
free_both calls b [] us h g = g
free_both calls b (k ∷ ks) us h g = (h.0, free_both calls b ks us h.1 g)

-- ---- a run of children in a group

abbrev size_of : List OuterCall → Option ℕ → List Near → ℕ
size_of calls o ks = length (text_from calls o (held_by_all (near_nodes ks)))

size_more : (calls : List OuterCall) (o : Option ℕ) (c : Near) (cs : List Near)
    → size_of calls o (c ∷ cs) ≡ length (text_from calls o (tree_items c.tree)) + size_of calls (last_of o (tree_items c.tree)) cs
size_more calls o c cs =
    let own : List Item = tree_items c.tree in
    let rest : List Item = held_by_all (near_nodes cs) in
    ap length (text_append_from calls o own rest) ∙ length-append (text_from calls o own) (text_from calls (last_of o own) rest)

in_group : (calls : List OuterCall) (b : ℕ) (o : Option ℕ) (at : ℕ) (ks : List Near) → Follow calls o at ks → (at ≤ b → b < at + size_of calls o ks → ⊥)
    → AreFreeAt calls b ks
in_group calls b o at [] f n = tt
in_group calls b o at (c ∷ cs) f n =
    let own : ℕ = length (text_from calls o (tree_items c.tree)) in
    let rest : ℕ = size_of calls (last_of o (tree_items c.tree)) cs in
    let all : size_of calls o (c ∷ cs) ≡ own + rest = size_more calls o c cs in
    let same : length (text_from calls c.before (tree_items c.tree)) ≡ own = ap (λ (x : Option ℕ). length (text_from calls x (tree_items c.tree))) f.0 in
    let byte : c.byte ≡ at = f.1 in (
      λ h.
          let low : at ≤ b = omega (arith, h.0, byte) in
          let high : b < at + size_of calls o (c ∷ cs) = omega (arith, h.1, byte, same, all) in
          absurd (n low high),
      in_group calls b (last_of o (tree_items c.tree)) (at + own) cs f.2
          (λ low high.
          let first : at ≤ b = omega (arith, low) in
          let last : b < at + size_of calls o (c ∷ cs) = omega (arith, high, all) in
          n first last),
    )

not_beside : (b from to : ℕ) → (b < from) ⊎ (to ≤ b) → from ≤ b → b < to → ⊥
not_beside b from to (inl h) low high = omega (arith, h, low)
not_beside b from to (inr h) low high = omega (arith, h, high)

-- ---- all runs

one_free : (calls : List OuterCall) (carried : List Part → Option DataMw) (b : ℕ) (c : Near) (v : Bool) → c.clean ≡ v
    → NoGroupAt b (if v then c.whole else near_group calls carried (c ∷ [])) → IsFreeAt calls b c
one_free calls carried b c true e g = λ h. (e, g)
one_free calls carried b c false e g =
    let own : List Item = tree_items c.tree in
    let size : length (text_from calls c.before (own ++ [])) ≡ length (text_from calls c.before own) =
    ap (λ (xs : List Item). length (text_from calls c.before xs)) (append-nil own) in
    λ h.
    let high : b < c.byte + length (text_from calls c.before (own ++ [])) = omega (arith, h.1, size) in
    absurd (not_beside b c.byte (c.byte + length (text_from calls c.before (own ++ []))) g h.0 high)

runs_free : (calls : List OuterCall) (carried : List Part → Option DataMw) (b : ℕ) (o : Option ℕ) (at : ℕ) (rs : List (List Near)) (cs : List Near)
    → AreRuns near_tied rs cs → Follow calls o at cs → NoneGroupAt b (trees (map (near_run calls carried) rs)) → AreFreeAt calls b cs
runs_free calls carried b o at [] cs h f g = subst (AreFreeAt calls b) (sym h) tt
runs_free calls carried b o at ([] ∷ rs) cs h f g = absurd h.2
runs_free calls carried b o at ((c ∷ []) ∷ rs) cs h f g =
    let w : Follow calls o at (c ∷ h.0) = subst (λ (ds : List Near). Follow calls o at ds) h.1 f in
    let own : Option ℕ = last_of o (tree_items c.tree) in
    subst (λ (ds : List Near). AreFreeAt calls b ds) (sym h.1)
    (one_free calls carried b c c.clean refl g.0, runs_free calls carried b own (at + length (text_from calls o (tree_items c.tree))) rs h.0 h.3 w.2 g.1)
runs_free calls carried b o at ((c ∷ d ∷ ds) ∷ rs) cs h f g =
    let ks : List Near = c ∷ d ∷ ds in
    let w = follow_split calls o at ks h.0 (subst (λ (es : List Near). Follow calls o at es) h.1 f) in
    let start : c.byte ≡ at = w.0.1 in
    let size : length (text_from calls c.before (held_by_all (near_nodes ks))) ≡ size_of calls o ks =
    ap (λ (x : Option ℕ). length (text_from calls x (held_by_all (near_nodes ks)))) w.0.0 in
    let apart : at ≤ b → b < at + size_of calls o ks → ⊥ = λ low high.
    let first : c.byte ≤ b = omega (arith, low, start) in
    let last : b < c.byte + length (text_from calls c.before (held_by_all (near_nodes ks))) = omega (arith, high, start, size) in
    not_beside b c.byte (c.byte + length (text_from calls c.before (held_by_all (near_nodes ks)))) g.0 first last in
    subst (λ (es : List Near). AreFreeAt calls b es) (sym h.1)
    (free_both calls b ks h.0 (in_group calls b o at ks w.0 apart) (runs_free calls carried b w.1.0 w.1.1 rs h.0 h.3 w.1.2 g.1))

pub children_free : (calls : List OuterCall) (carried : List Part → Option DataMw) (b : ℕ) (o : Option ℕ) (at : ℕ) (p : Option ℕ) (ts : ItemTrees)
    → NoneGroupAt b (trees (near_runs calls carried (near calls carried o at p ts))) → AreFreeAt calls b (near calls carried o at p ts)
children_free calls carried b o at p ts g =
    let cs : List Near = near calls carried o at p ts in
    runs_free calls carried b o at (runs near_tied cs) cs (runs_are near_tied cs) (near_follow calls carried o at p ts) g
