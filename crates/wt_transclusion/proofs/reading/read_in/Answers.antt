use Rattle.std.proofs.Common.{length, map, ◌∙◌, ap, subst, sym}
use Rattle.std.specs.Prelude.{All}
use Rattle.wt_braces.specs.Views.{call_of}
use Rattle.wt_braces.proofs.Adjacent.{lexed_adjacent}
use Rattle.wt_transclusion.specs.Targets.{HasTarget}
use Rattle.wt_transclusion.proofs.FirstParts.{have_targets}
use Rattle.wt_transclusion.proofs.TemplateReads.{text_read, text_refused}
use Rattle.wt_transclusion.proofs.reading.read_in.Goals as goal

pub match_braces-requires : goal.match_braces-requires
match_braces-requires c = lexed_adjacent c.in-Ok.lexemes 0 (length c.args.text.now) c.in-Ok.ensures.follow

pub in_arena-requires-clause-targets : goal.in_arena-requires-clause-targets
in_arena-requires-clause-targets c =
    subst (All HasTarget) (sym c.as_slice-in-Ok-match_braces.ensures)
    (have_targets c.in-Ok-match_braces.calls _ _ c.in-Ok-match_braces.ensures.0)

pub returns-in-Ok-in_arena : goal.returns-in-Ok-in_arena
returns-in-Ok-in_arena c =
    text_read c.args.mode c.args.text.now c.in-Ok.lexemes
    (map call_of c.in-Ok-match_braces.calls) c.in-Ok-in_arena.read c.utf8.text c.in-Ok.ensures.words c.in-Ok.ensures.follow c.in-Ok.ensures.borders
    c.in-Ok-match_braces.ensures.0 c.in-Ok-match_braces.ensures.1 c.in-Ok-in_arena.ensures.text (c.in-Ok-in_arena.ensures.lexemes ∙ c.as_slice.ensures)
    (c.in-Ok-in_arena.ensures.calls ∙ ap (map call_of) c.as_slice-in-Ok-match_braces.ensures)

pub returns : goal.returns
returns c = text_refused c.args.mode c.args.text.now c.in-Ok.lexemes c.in-Err.refusal c.in-Ok.ensures.words c.in-Ok.ensures.follow c.in-Err.ensures
