-- Links that lead to pages and categories, and what may be read behind a link and a URL.
use Rattle.std.specs.Prelude.{◌≡◌, ℕ, ◌+◌, ◌≤◌, length, false, Option, Some, None, List, [], ◌∷◌, take}
use Rattle.wt_tiles.specs.declared.glyph.Glyph.{Glyph}
use Rattle.wt_tiles.specs.declared.target.LinkKind.{LinkKind}
use Rattle.wt_tiles.specs.declared.target.LinkKind.TheVariants.{Page, Category, Media}
use Rattle.wt_tiles.specs.declared.target.Target.{Target}
use Rattle.wt_tiles.specs.Links.{target_of, kind_of, target_len}
use Rattle.wt_tiles.specs.Urls.{is_url_glyph}

-- it isn't media
abbrev pub IsPlainKind : LinkKind → Type 0
IsPlainKind Page = Unit {0}
IsPlainKind Category = Unit {0}
IsPlainKind Media = ⊥

abbrev pub IsCategoryKind : LinkKind → Type 0
IsCategoryKind Page = ⊥
IsCategoryKind Category = Unit {0}
IsCategoryKind Media = ⊥

abbrev pub IsMediaKind : LinkKind → Type 0
IsMediaKind Page = ⊥
IsMediaKind Category = ⊥
IsMediaKind Media = Unit {0}

-- the kind of link that a target makes
abbrev pub LeadsBy : (LinkKind → Type 0) → Option Target → Type 0
LeadsBy P None = Unit {0}
LeadsBy P (Some t) = P (kind_of t)

abbrev pub AimsBy : (LinkKind → Type 0) → Option ℕ → List Glyph → Type 0
AimsBy P None gs = Unit {0}
AimsBy P (Some n) gs = LeadsBy P (target_of (take n gs))

-- of what follows its `[[`: it leads to a page or a category
abbrev pub IsPlainLink : List Glyph → Type 0
IsPlainLink gs = AimsBy IsPlainKind (target_len gs) gs

-- to a category
abbrev pub IsCategoryLink : List Glyph → Type 0
IsCategoryLink gs = AimsBy IsCategoryKind (target_len gs) gs

-- to media, where so many items are its target
pub record IsMediaLink (gs : List Glyph) (n : ℕ) : Type 0 where
  pub target : target_len gs ≡ Some n
  pub kind : LeadsBy IsMediaKind (target_of (take n gs))
  pub fits : n + 2 ≤ length gs

-- no item of a URL is first
abbrev pub IsPastUrl : List Glyph → Type 0
IsPastUrl [] = Unit {0}
IsPastUrl (g ∷ gs) = is_url_glyph g ≡ false
