use Rattle.std.proofs.Common.{List, sym, subst}
use Rattle.std.specs.Prelude.{All}
use Rattle.std.specs.List.{AllPairs}
use Rattle.wt_quotes.specs.declared.style.Style.{Style}
use Rattle.wt_quotes.specs.Runs.{bytes_of}
use Rattle.wt_quotes.specs.Toggles.{toggles_of}
use Rattle.wt_quotes.specs.StyleLaws.{IsWhole, IsBehindOrInside}
use Rattle.std.proofs.Common.{false}
use Rattle.wt_quotes.proofs.Nesting.{whole, pairs_of}
use Rattle.wt_quotes.proofs.Reading.{steps_of, are_steps, styles_read}
use Rattle.wt_quotes.proofs.laws.styles_nest.Goals as goal

pub returns : goal.returns
returns c =
    let chunks = c.args.chunks.now in
    let total = bytes_of chunks in
    subst (λ (us : List Style). All (IsWhole total) us × AllPairs IsBehindOrInside us) (sym (styles_read chunks)) (
      whole total 0 false false false (steps_of chunks (toggles_of chunks)) (are_steps chunks),
      pairs_of total 0 false false false (steps_of chunks (toggles_of chunks)) (are_steps chunks),
    )
