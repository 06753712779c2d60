-- Worked lines of the listing.
use Rattle.std.proofs.Common.{◌≡◌, refl, []}
use Rattle.std.specs.Prelude.{Some, None, codes}
use Rattle.std.specs.Fmt.{digits}
use Rattle.wt_tree.specs.declared.kind.Kind.TheVariants as kind
use Rattle.wt_span.specs.declared.tag_name.TagName.TheVariants.{Sup}
use Rattle.wt_tree.specs.Kinds.{spelling}
use Rattle.wt_listing.specs.Listing.{line, line_of, place_numbers}

heading_line : line_of (7, kind.Heading 2, Some (record { start = 0; end = 10; open_w = 4; close_w = 2 })) ≡ codes "mw7 h2 0 10 4 2\n"
unfolding line_of line spelling place_numbers digits
heading_line = refl

tag_line : line_of (1, kind.Tag Sup, Some (record { start = 12; end = 30; open_w = 5; close_w = 6 })) ≡ codes "mw1 tag 12 30 5 6\n"
unfolding line_of line spelling place_numbers digits
tag_line = refl

unnumbered : line_of (0, kind.Text, Some (record { start = 0; end = 1; open_w = 0; close_w = 0 })) ≡ []
unfolding line_of
unnumbered = refl

without_place : line_of (3, kind.Para, None) ≡ []
unfolding line_of
without_place = refl
