use Rattle.std.proofs.Common.{◌≡◌, List, ℕ, take}
use Rattle.wt_replies.specs.Indexes.{entries_of}
use Rattle.wt_replies.specs.Tables.{entry_of}
use Rattle.wt_replies.proofs.index.Index.of.Given as goal

abbrev pub invariant-loop-page : goal.invariant-loop-page
invariant-loop-page l = (name : List ℕ) → entries_of l.index name ≡ entry_of (take l.page-index l.pages) name
