-- What the tables of kinds say of nodes by what they show: which may stand where, and which texts stand in them.
use Rattle.std.proofs.Common.{◌≡◌, Bool, true, false, refl, ap, inr}
use Rattle.std.specs.Prelude.{◌&&◌, ◌||◌, not}
use Rattle.wt_tree.specs.declared.kind.Kind.{Kind}
use Rattle.wt_tree.specs.declared.kind.Kind.TheVariants as kind
use Rattle.wt_tree.specs.declared.kind.Showing.TheVariants.{Nothing, Element}
use Rattle.wt_tree.specs.declared.row.Placement.{Placement}
use Rattle.wt_tree.specs.declared.row.Placement.TheVariants as class
use Rattle.wt_tree.specs.declared.row.Holding.{Holding}
use Rattle.wt_tree.specs.declared.row.Holding.TheVariants as holding
use Rattle.wt_tree.specs.declared.row.Texts.TheVariants.{Separators, Page, OwnCharacter}
use Rattle.wt_tree.specs.Elements.{span}
use Rattle.wt_tree.specs.Kinds.{shape, showing, texts_of_kind, is_class, admits, is_anywhere, is_block, spelling}
use Rattle.wt_tree.specs.Plain.{ended, plains_before}
use Rattle.wt_tree.specs.Tree.{Trees, none, more}
use Rattle.wt_schema.specs.Rows.{shows_text}
use Rattle.wt_schema.specs.GroupNodes.{is_ended}
use Rattle.wt_schema.specs.Written.{IsFace, is_childless}

pub shown_element : (k : Kind) → showing k ≡ Element → shows_text k ≡ false
shown_element kind.Entity e = absurd cc
shown_element k e = refl

pub hidden_block : (k : Kind) → showing k ≡ Nothing → is_block k ≡ false
hidden_block kind.Para e = absurd cc
hidden_block (kind.Heading n) e = absurd cc
hidden_block kind.Rule e = absurd cc
hidden_block kind.Ul e = absurd cc
hidden_block kind.Ol e = absurd cc
hidden_block kind.Dl e = absurd cc
hidden_block kind.Pre e = absurd cc
hidden_block kind.Table e = absurd cc
hidden_block k e = refl

abbrev pub takes_inline : Holding → Bool
takes_inline holding.NoElements = true
takes_inline holding.Blocks = false
takes_inline holding.Inlines = true
takes_inline holding.Entities = true
takes_inline holding.Items = false
takes_inline holding.Terms = false
takes_inline holding.TableParts = false
takes_inline holding.TableRows = false
takes_inline holding.Cells = false
takes_inline holding.InlinesThenLists = false
takes_inline holding.InlinesThenBlocks = false

abbrev pub is_block_class : Placement → Bool
is_block_class c = is_class c class.Block || is_class c class.List

abbrev pub is_inline_class : Placement → Bool
is_inline_class c = is_class c class.Inline || is_class c class.Character

pub block_held : (h : Holding) (c : Placement) → takes_inline h ≡ true → (is_anywhere c || admits h c) ≡ true → is_block_class c ≡ false
block_held holding.NoElements class.Block a e = absurd cc
block_held holding.Inlines class.Block a e = absurd cc
block_held holding.Entities class.Block a e = absurd cc
block_held h class.Block a e = absurd cc
block_held holding.NoElements class.List a e = absurd cc
block_held holding.Inlines class.List a e = absurd cc
block_held holding.Entities class.List a e = absurd cc
block_held h class.List a e = absurd cc
block_held h c a e = refl

abbrev pub takes_none : Holding → Bool
takes_none holding.NoElements = true
takes_none holding.Blocks = true
takes_none holding.Inlines = false
takes_none holding.Entities = false
takes_none holding.Items = true
takes_none holding.Terms = true
takes_none holding.TableParts = true
takes_none holding.TableRows = true
takes_none holding.Cells = true
takes_none holding.InlinesThenLists = false
takes_none holding.InlinesThenBlocks = false

pub inline_held : (h : Holding) (c : Placement) → takes_none h ≡ true → (is_anywhere c || admits h c) ≡ true → is_inline_class c ≡ false
inline_held holding.Inlines class.Inline a e = absurd cc
inline_held holding.Entities class.Inline a e = absurd cc
inline_held holding.InlinesThenLists class.Inline a e = absurd cc
inline_held holding.InlinesThenBlocks class.Inline a e = absurd cc
inline_held h class.Inline a e = absurd cc
inline_held holding.Inlines class.Character a e = absurd cc
inline_held holding.Entities class.Character a e = absurd cc
inline_held holding.InlinesThenLists class.Character a e = absurd cc
inline_held holding.InlinesThenBlocks class.Character a e = absurd cc
inline_held h class.Character a e = absurd cc
inline_held h c a e = refl

pub page_takes : (k : Kind) → texts_of_kind k ≡ Page → takes_inline (shape k).holding ≡ true
page_takes kind.Body e = absurd cc
page_takes (kind.Section n) e = absurd cc
page_takes kind.Ul e = absurd cc
page_takes kind.Ol e = absurd cc
page_takes kind.Dl e = absurd cc
page_takes kind.Li e = absurd cc
page_takes kind.Dt e = absurd cc
page_takes kind.Dd e = absurd cc
page_takes kind.Table e = absurd cc
page_takes kind.Tbody e = absurd cc
page_takes kind.Tr e = absurd cc
page_takes kind.Caption e = absurd cc
page_takes kind.Td e = absurd cc
page_takes kind.Th e = absurd cc
page_takes k e = refl

pub separators_take : (k : Kind) → texts_of_kind k ≡ Separators → takes_none (shape k).holding ≡ true
separators_take kind.Body e = refl
separators_take (kind.Section n) e = refl
separators_take kind.Ul e = refl
separators_take kind.Ol e = refl
separators_take kind.Dl e = refl
separators_take kind.Table e = refl
separators_take kind.Tbody e = refl
separators_take kind.Tr e = refl
separators_take kind.Sep e = refl
separators_take k e = absurd cc

pub own_character : (k : Kind) → texts_of_kind k ≡ OwnCharacter → showing k ≡ Element → ⊥
own_character kind.Entity e f = absurd cc
own_character k e f = absurd cc

pub none_follows : (b c : Bool) → c ≡ false → not (b && c) ≡ true
none_follows true c e = ap not e
none_follows false c e = refl

pub leaf_ended : (a : Bool) (ts : Trees) → (a || is_childless ts) ≡ true → (a || is_ended (plains_before ts ended)) ≡ true
leaf_ended true ts h = refl
leaf_ended false none h = refl
leaf_ended false (more t ts) h = absurd cc

pub span_is : IsFace span
unfolding spelling
span_is = record { element = refl; level = refl; attrs = inr (refl, inr (refl, inr (refl, inr (refl, inr (refl, inr (refl, refl)))))); shows = refl }
