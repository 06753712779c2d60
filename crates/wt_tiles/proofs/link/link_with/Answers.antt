use Rattle.std.proofs.Common.{ℕ, sym, subst}
use Rattle.wt_tiles.specs.declared.target.LinkKind.{LinkKind}
use Rattle.wt_tiles.specs.Links.{kind_of}
use Rattle.wt_tiles.specs.Searches.{IsHead}
use Rattle.wt_tiles.proofs.LinkFits.{inner_within, head_within}
use Rattle.wt_tiles.proofs.link.link_with.Goals as goal

pub link_shape-requires-clause-within : goal.link_shape-requires-clause-within
link_shape-requires-clause-within c = inner_within (kind_of c.args.target.now) c.args.n c.in_ok-k.k c.args.rest.now c.args.close c.requires.close c.in_ok-k.was

pub link_shape-requires-clause-head : goal.link_shape-requires-clause-head
link_shape-requires-clause-head c =
    let h = head_within (kind_of c.args.target.now) c.args.target.now.colon c.args.n c.in_ok-k.k c.args.rest.now c.args.close c.requires.close c.in_ok-k.was in
    let P : ℕ → Type 0 = λ m. IsHead (kind_of c.args.target.now) m c.in_ok-k.k in
    let Q : LinkKind → Type 0 = λ kd. IsHead kd c.head_len-head.result c.in_ok-k.k in
    subst Q (sym c.kind.ensures) (subst P (sym c.head_len-head.ensures) h)
