use Rattle.std.proofs.Common.{◌≡◌, ◌-◌, ℕ, Option, List, Some, None, length, drop, sym, ◌∙◌, arith}
use Rattle.std.specs.Prelude.{slice_get}
use Rattle.wt_tiles.specs.declared.glyph.Glyph.{Glyph}
use Rattle.wt_tiles.specs.Partners.{bracket_turn, Up}
use Rattle.wt_tiles.specs.Tables.{balances}
use Rattle.wt_tiles.proofs.Balances.{up_len, up_some, up_none, AreKnown, known_at}
use Rattle.wt_tiles.proofs.bracket.balance_up.Goals as goal

behind : (gs : List Glyph) (table : List (Option ℕ)) (r : Option ℕ) → bracket_turn gs ≡ Up → AreKnown gs table
    → slice_get table (length gs - 2) ≡ Some r → balances (drop 2 gs) ≡ r
behind gs table r up known is = let l = up_len gs up in sym (known_at gs table (length gs - 2) 2 r known (omega arith) (omega arith) is)

pub overflow_sub-glyphs : goal.overflow_sub-glyphs
overflow_sub-glyphs c = up_len c.args.glyphs.now c.requires.up

pub entry-requires : goal.entry-requires
entry-requires c = omega (arith, up_len c.args.glyphs.now c.requires.up, c.requires.size)

pub overflow_sub-inner : goal.overflow_sub-inner
overflow_sub-inner c =
    let s = up_some c.args.glyphs.now c.in-Some.inner c.requires.up
    (behind c.args.glyphs.now c.args.table.now (Some c.in-Some.inner) c.requires.up c.requires.known c.in-Some.ensures) in s.some

pub entry-requires-in-Some : goal.entry-requires-in-Some
entry-requires-in-Some c =
    let s = up_some c.args.glyphs.now c.in-Some.inner c.requires.up
    (behind c.args.glyphs.now c.args.table.now (Some c.in-Some.inner) c.requires.up c.requires.known c.in-Some.ensures) in
    omega (arith, s.within, c.requires.size)

pub returns-in-Some : goal.returns-in-Some
returns-in-Some c =
    let s = up_some c.args.glyphs.now c.in-Some.inner c.requires.up
    (behind c.args.glyphs.now c.args.table.now (Some c.in-Some.inner) c.requires.up c.requires.known c.in-Some.ensures) in
    known_at c.args.glyphs.now c.args.table.now (c.in-Some.inner - 2) (length c.args.glyphs.now - (c.in-Some.inner - 2))
    c.entry-in-Some.result c.requires.known (omega (arith, s.within, s.some)) (omega (arith, s.within, s.some)) c.entry-in-Some.ensures
    ∙ sym s.is

pub returns-in-None : goal.returns-in-None
returns-in-None c = sym (up_none c.args.glyphs.now c.requires.up
    (behind c.args.glyphs.now c.args.table.now None c.requires.up c.requires.known c.in-None.ensures))
