-- The plain view of a tree is told by its gist.
use Rattle.std.proofs.Common.{◌≡◌, Bool, true, false, refl, sym, ap, ◌∙◌}
use Rattle.std.specs.Prelude.{if◌then◌else◌}
use Rattle.wt_tree.specs.declared.kind.Kind.{Kind}
use Rattle.wt_tree.specs.declared.kind.Kind.TheVariants as kind
use Rattle.wt_tree.specs.declared.kind.Showing.{Showing}
use Rattle.wt_tree.specs.declared.kind.Showing.TheVariants.{Characters, Inside, Nothing, Element}
use Rattle.wt_tree.specs.Kinds.{showing, writing}
use Rattle.wt_tree.specs.Plain.{element, Plains, ended, along, text_before, shown_before, plain_before, plains_before, plain}
use Rattle.wt_tree.specs.Tree.{Label, Tree, tree, Trees, none, more, label}
use Rattle.wt_checks.specs.Gist.{Features, Gist, text, node, Gists, gist_by, gist, gists}
use Rattle.wt_checks.specs.Gist as gist_words
use Rattle.wt_checks.specs.Unmarked.{is_compared}

abbrev said_by : Showing → Features → (Plains → Plains) → Plains → Plains
said_by Characters f held rest = text_before f.character rest
said_by Inside f held rest = held rest
said_by Nothing f held rest = rest
said_by Element f held rest = along (element (record { kind = f.kind; attrs = f.attrs; mw = f.mw }) (held ended)) rest

abbrev mutual
  said : Gist → Plains → Plains
  said (text bs) rest = text_before bs rest
  said (node f gs) rest = said_by (showing f.kind) f (λ ps. all_said gs ps) rest

  all_said : Gists → Plains → Plains
  all_said gist_words.ended rest = rest
  all_said (gist_words.along g gs) rest = said g (all_said gs rest)

-- by what a kind shows
by_kind : (k : Kind) (l : Label) (gs : Gists) (f : Plains → Plains) (rest : Plains) → is_compared (showing k) ≡ true
    → ((ps : Plains) → f ps ≡ all_said gs ps) → shown_before (showing k) (record l { kind = k }) f rest
    ≡ said (gist_by (writing k) (record l { kind = k }) gs) rest
by_kind kind.Sep l gs f rest c h = absurd (cc)
by_kind kind.Comment l gs f rest c h = absurd (cc)
by_kind kind.Include l gs f rest c h = absurd (cc)
by_kind kind.Skip l gs f rest c h = absurd (cc)
by_kind kind.Empty l gs f rest c h = absurd (cc)
by_kind kind.Text l gs f rest c h = refl
by_kind kind.Entity l gs f rest c h = refl
by_kind kind.Nowiki l gs f rest c h = h rest
by_kind kind.Group l gs f rest c h = h rest
by_kind (kind.Section n) l gs f rest c h = h rest
by_kind k l gs f rest c h = ap (λ qs. along (element (record { kind = k; attrs = l.attrs; mw = l.mw }) qs) rest) (h ended)

nothing_shown : (s : Showing) (l : Label) (f : Plains → Plains) (rest : Plains) → is_compared s ≡ false → shown_before s l f rest ≡ rest
nothing_shown Nothing l f rest e = refl
nothing_shown Characters l f rest e = absurd (cc)
nothing_shown Inside l f rest e = absurd (cc)
nothing_shown Element l f rest e = absurd (cc)

one_more : (b : Bool) (t : Tree) (gs : Gists) (rest qs : Plains) → is_compared (showing (label t).kind) ≡ b → qs ≡ all_said gs rest
    → (b ≡ true → plain_before t qs ≡ said (gist t) qs) → (b ≡ false → plain_before t qs ≡ qs)
    → plain_before t qs ≡ all_said (if b then gist_words.along (gist t) gs else gs) rest
one_more true t gs rest qs c e f g = f refl ∙ ap (said (gist t)) e
one_more false t gs rest qs c e f g = g refl ∙ e

mutual
  plain_is : (t : Tree) (rest : Plains) → is_compared (showing (label t).kind) ≡ true → plain_before t rest ≡ said (gist t) rest
  plain_is (tree l ts) rest c = by_kind l.kind l (gists ts) (λ ps. plains_before ts ps) rest c (λ ps. plains_are ts ps)

  plains_are : (ts : Trees) (rest : Plains) → plains_before ts rest ≡ all_said (gists ts) rest
  plains_are none rest = refl
  plains_are (more (tree l us) ts) rest =
      one_more (is_compared (showing l.kind)) (tree l us) (gists ts) rest (plains_before ts rest) refl (plains_are ts rest)
      (λ c. plain_is (tree l us) (plains_before ts rest) c)
      (λ c. nothing_shown (showing l.kind) l (λ ps. plains_before us ps) (plains_before ts rest) c)

-- trees of one gist have one plain view
pub same_plain : (t u : Tree) → is_compared (showing (label t).kind) ≡ true → is_compared (showing (label u).kind) ≡ true → gist t ≡ gist u → plain t ≡ plain u
same_plain t u c d e = plain_is t ended c ∙ ap (λ g. said g ended) e ∙ sym (plain_is u ended d)
