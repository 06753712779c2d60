-- Whether the first characters of a text open a block.
use Rattle.std.specs.Prelude.{◌≡◌, ℕ, List, [], ◌++◌}
use Rattle.wt_span.specs.Items.{Item}
use Rattle.wt_expand.specs.Expansion.{begins_with_bar, chars, opens_block}
use Rattle.wt_transclusion.specs.declared.line_start.Opening.{Opening}
use Rattle.wt_transclusion.specs.declared.line_start.Opening.TheVariants as opening

-- what is known of them, whatever follows
abbrev pub IsOpening : List ℕ → Opening → Type 0
IsOpening bs opening.Empty = bs ≡ []
IsOpening bs opening.Brace = (rest : List Item) → opens_block (chars bs ++ rest) ≡ begins_with_bar rest
IsOpening bs (opening.Known opens) = (rest : List Item) → opens_block (chars bs ++ rest) ≡ opens
