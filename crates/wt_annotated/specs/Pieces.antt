-- Pieces, by the items that they stand for.
use Rattle.std.specs.Prelude.{ℕ, ◌==◌, ◌&&◌, Bool, true, false, Option, Some, None, List, [], length, map}
use Rattle.wt_span.specs.declared.form.ItemForm.{ItemForm}
use Rattle.wt_span.specs.declared.form.ItemForm.TheVariants as form
use Rattle.wt_span.specs.declared.form.Piece.{Piece}
use Rattle.wt_span.specs.declared.form.Outer.{Outer}
use Rattle.wt_span.specs.declared.text.Text.{Text}
use Rattle.wt_span.specs.Slice.{bytes_of}
use Rattle.wt_span.specs.Origins.{OuterCall, outer_call}

abbrev pub outer_calls : List Outer → List OuterCall
outer_calls cs = map outer_call cs

abbrev pub is_characters : ItemForm → Bool
is_characters form.Chars = true
is_characters (form.Entity c) = false
is_characters form.Nowiki = false
is_characters form.Extension = false
is_characters form.Function = false
is_characters form.Comment = false
is_characters form.Include = false
is_characters form.Hidden = false
is_characters form.EmptyCall = false

-- the characters of an empty text are no items
abbrev pub is_hollow : Piece → Bool
is_hollow p = is_characters p.form && length (bytes_of p.text) == 0

abbrev pub bytes_if_any : Option Text → List ℕ
bytes_if_any None = []
bytes_if_any (Some t) = bytes_of t
