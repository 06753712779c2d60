-- The sections of a page before and after an edit: the same ones, each with as many nodes in it.
use Rattle.std.specs.Prelude.{◌≡◌, Bool, true, false}
use Rattle.wt_tree.specs.Kinds.{is_section}
use Rattle.wt_tree.specs.Tree.{Tree, tree, Trees, none, more}

-- both are sections, and this holds of them, or neither is one
abbrev pub BothSections : Bool → Bool → Type 0 → Type 0
BothSections true true A = A
BothSections true false A = ⊥
BothSections false true A = ⊥
BothSections false false A = Unit {0}

-- Two sections have the same number and hold as many nodes, and the same sections among these. Of what is in a node that is no section nothing is said.
abbrev mutual
  pub IsInSectionsAs : Tree → Tree → Type 0
  IsInSectionsAs (tree l ts) (tree m us) = BothSections (is_section l.kind) (is_section m.kind) ((l.kind ≡ m.kind) × AreInSectionsAs ts us)

  pub AreInSectionsAs : Trees → Trees → Type 0
  AreInSectionsAs none none = Unit {0}
  AreInSectionsAs none (more u us) = ⊥
  AreInSectionsAs (more t ts) none = ⊥
  AreInSectionsAs (more t ts) (more u us) = IsInSectionsAs t u × AreInSectionsAs ts us
