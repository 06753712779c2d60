-- What equal nodes, and blocks of equal kinds, have.
use Rattle.std.proofs.Common.{◌≡◌, refl, sym, ap, ◌∙◌}
use Rattle.wt_tree.specs.declared.kind.Kind.{Kind}
use Rattle.wt_tree.specs.declared.kind.Kind.TheVariants as kind
use Rattle.wt_tree.specs.Tree.{Tree, Trees, none, more}
use Rattle.wt_typed_blocks.specs.Sent.{Block, paragraph, heading, kind_of}

-- ---- equal trees

first_or : Tree → Trees → Tree
first_or t none = t
first_or t (more u us) = u

rest_of : Trees → Trees
rest_of none = none
rest_of (more u us) = us

pub same_first : (t u : Tree) (ts us : Trees) → more t ts ≡ more u us → t ≡ u
unfolding first_or
same_first t u ts us e = ap (first_or t) e

pub same_rest : (t u : Tree) (ts us : Trees) → more t ts ≡ more u us → ts ≡ us
unfolding rest_of
same_rest t u ts us e = ap rest_of e

-- ---- equal kinds

-- the block of a kind
own_block : Kind → Block
own_block (kind.Heading n) = heading n
own_block k = paragraph

block_again : (k : Block) → own_block (kind_of k) ≡ k
unfolding own_block
block_again paragraph = refl
block_again (heading n) = refl

pub same_block : (j k : Block) → kind_of j ≡ kind_of k → j ≡ k
same_block j k e = sym (block_again j) ∙ ap own_block e ∙ block_again k
