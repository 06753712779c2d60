-- What closes what: the closing tag that balances an opening one, and the `]]` that balances a `[[`. Each is the first place
-- where more has been closed than opened; the depth counts how many of those opened on the way aren't closed yet.
use Rattle.std.specs.Prelude.{ℕ, zero, suc, ◌==◌, Option, Some, None, List, [], ◌∷◌, codes, if◌then◌else◌}
use Rattle.wt_span.specs.declared.tag_name.TagName.{TagName}
use Rattle.wt_span.specs.declared.tag_name.TagName.TheVariants as name
use Rattle.wt_tiles.specs.declared.glyph.Glyph.{Glyph}
use Rattle.wt_tiles.specs.declared.tag.Name.{Name}
use Rattle.wt_tiles.specs.declared.tag.Name.TheVariants.{Paired, Break, Island}
use Rattle.wt_tiles.specs.declared.tag.TagShape.{TagShape}
use Rattle.wt_tiles.specs.declared.tag.TagShape.TheVariants.{Opening, Alone, Closing}
use Rattle.wt_tiles.specs.declared.tag.Tag.{Tag}
use Rattle.wt_tiles.specs.Glyphs.{begins}
use Rattle.wt_tiles.specs.Tags.{tag_at}

-- one is opened here, one is closed, or neither
pub data DepthChange : Type 0 where
  Up : DepthChange
  Down : DepthChange
  Level : DepthChange

-- ---- tags

-- the names of pairs by number
abbrev pub number : TagName → ℕ
number name.Sup = 0
number name.Sub = 1
number name.Small = 2
number name.S = 3
number name.U = 4
number name.Code = 5
number name.Span = 6

abbrev pub turn_of_shape : TagShape → DepthChange
turn_of_shape Opening = Up
turn_of_shape Alone = Level
turn_of_shape Closing = Down

abbrev pub turn_of_name : ℕ → Name → TagShape → DepthChange
turn_of_name k (Paired m) shape = if number m == k then turn_of_shape shape else Level
turn_of_name k Break shape = Level
turn_of_name k Island shape = Level

abbrev pub turn_of_tag : ℕ → Option Tag → DepthChange
turn_of_tag k None = Level
turn_of_tag k (Some t) = turn_of_name k t.name t.shape

-- what the tags of a name do here
abbrev pub tag_turn : ℕ → List Glyph → DepthChange
tag_turn k gs = turn_of_tag k (tag_at gs)

abbrev pub by_tag : DepthChange → ℕ → List Glyph → (ℕ → Option (List Glyph)) → Option (List Glyph)
by_tag Up d here rest = rest (suc d)
by_tag Level d here rest = rest d
by_tag Down zero here rest = Some here
by_tag Down (suc d) here rest = rest d

-- what is left from the closing tag on that balances, of the k-th name
abbrev pub partner : ℕ → ℕ → List Glyph → Option (List Glyph)
partner k d [] = None
partner k d (g ∷ gs) = by_tag (tag_turn k (g ∷ gs)) d (g ∷ gs) (λ e. partner k e gs)

-- ---- brackets

unfoldable pub bracket_turn : List Glyph → DepthChange
bracket_turn gs = if begins (codes "]]") gs then Down else (if begins (codes "[[") gs then Up else Level)

abbrev pub by_bracket : DepthChange → ℕ → List Glyph → (ℕ → ℕ → Option (List Glyph)) → Option (List Glyph)
by_bracket Up d here rest = rest 1 (suc d)
by_bracket Level d here rest = rest 0 d
by_bracket Down zero here rest = Some here
by_bracket Down (suc d) here rest = rest 1 d

-- what is left from the `]]` on that balances; the first n items belong to a `[[` or `]]` that is counted already
abbrev pub balanced : ℕ → ℕ → List Glyph → Option (List Glyph)
balanced n d [] = None
balanced (suc n) d (g ∷ gs) = balanced n d gs
balanced zero d (g ∷ gs) = by_bracket (bracket_turn (g ∷ gs)) d (g ∷ gs) (λ n e. balanced n e gs)
