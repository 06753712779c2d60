use Rattle.std.proofs.Common.{Some, sym, ◌∙◌}
use Rattle.std.proofs.lemmas.Map.Text.{btree_map_updates_str}
use Rattle.wt_replies.specs.Indexes.{entries_of}
use Rattle.wt_replies.proofs.IndexLaws.{put}
use Rattle.wt_replies.proofs.index.Index.add.Goals as goal

pub returns-in_ok-insert : goal.returns-in_ok-insert
returns-in_ok-insert c = λ name.
    btree_map_updates_str c.args.page.now.name.now c.args.self.now.pages c.insert.new.self (Some c.args.page.now) c.in_ok-insert.ensures.updates name
    ∙ put (entries_of c.args.self.now) c.args.page.now (sym c.contains_key.ensures ∙ c.if-not-contains_key.true) name
