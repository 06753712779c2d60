-- Worked cases of the definitions, each computed: which nodes round a place are clean, and what stays of a page's tree.
use Rattle.std.proofs.Common.{◌≡◌, ℕ, false, Option, Some, None, List, [], ◌∷◌, map, refl}
use Rattle.std.specs.Prelude.{codes}
use Rattle.wt_tree.specs.declared.kind.Kind.{Kind}
use Rattle.wt_tree.specs.declared.kind.Kind.TheVariants as kind
use Rattle.wt_tree.specs.Tree.{label}
use Rattle.wt_span.specs.Items.{Item, char}
use Rattle.wt_span.specs.Origins.{OuterCall}
use Rattle.wt_inline.specs.ItemTree.{plain, ItemTree, inner, leaf, forest}
use Rattle.wt_annotated.specs.Walked.{clean_at}
use Rattle.wt_part_laws.specs.Frames.{place, whole, around, Frames, no_frames, more_frames}
use Rattle.wt_part_laws.specs.TreeFrames.{spot, kept, holder, TreeFrames, no_nodes, more_nodes}
use Rattle.wt_part_laws.specs.Rounded.{IsOwn, AreClean, AreCleanThere}
use Rattle.wt_part_laws.specs.HeldCalls.{HoldsItsCalls}
use Rattle.wt_part_laws.specs.MovedCalls.{AreMoved}
use Rattle.wt_part_laws.proofs.FramesWalked.{nodes_of}

abbrev page : List ℕ → List Item
page bs = map (char None) bs

abbrev given : ℕ → List ℕ → List Item
given k bs = map (char (Some k)) bs

abbrev node : Kind → List Item → List ItemTree → List Item → ItemTree
node k opening ts closing = inner (plain k) opening (forest ts) closing

abbrev para : List Item → ItemTree
para own = node kind.Para [] (leaf (plain kind.Text) own ∷ []) []

abbrev sep : List Item → ItemTree
sep own = leaf (plain kind.Sep) own

abbrev a_call : ℕ → List ℕ → OuterCall
a_call at bs = record { start = at; source = bs; argument = false; parts = []; equals = []; href = None }

-- at each place the paragraph `a`
abbrev old : ℕ → ItemTree
old n = para (page (codes "a"))

own_block : IsOwn (old 0)
own_block = record { of_page = refl; has_items = (refl, ((refl, tt), tt)) }

-- ---- the page `a`, two line breaks, `{{x}}`, with a place for the first paragraph

abbrev beside_call : Frames
beside_call = more_frames (place 0) (more_frames (whole (sep (page (codes "\n\n")))) (more_frames (whole (para (given 0 (codes "b")))) no_frames))

no_node_round : AreClean old None beside_call None
no_node_round = (tt, (tt, (tt, tt)))

-- a place, the separator, and the group of the call, with its source
abbrev kinds_of : TreeFrames → List (Option (Kind × List ℕ))
kinds_of no_nodes = []
kinds_of (more_nodes (spot n) fs) = None ∷ kinds_of fs
kinds_of (more_nodes (kept t) fs) = Some ((label t).kind, (label t).own) ∷ kinds_of fs
kinds_of (more_nodes (holder l gs) fs) = Some (l.kind, l.opening) ∷ kinds_of gs

group_stays : kinds_of (nodes_of (a_call 3 (codes "{{x}}") ∷ []) [] beside_call)
    ≡ None ∷ Some (kind.Sep, codes "\n\n") ∷ Some (kind.Group, codes "{{x}}") ∷ []
group_stays = refl

-- ---- a paragraph that begins with a call, behind a line break

abbrev calling : ℕ → ItemTree
calling n = node kind.Para [] (leaf (plain kind.Text) (given 0 (codes "b")) ∷ leaf (plain kind.Text) (page (codes "a")) ∷ []) []

begins_with_call : HoldsItsCalls (calling 0) × AreCleanThere calling None (more_frames (whole (sep (page (codes "\n")))) (more_frames (place 0) no_frames)) None
begins_with_call = (record { some = refl; clean = refl }, (tt, (refl, tt)))

-- behind an item of the same call it is a part of a group
reached_into : clean_at (Some 0) None (calling 0) ≡ false
reached_into = refl

-- and so it is where nothing in it is the page's
call_alone : clean_at None None (para (given 0 (codes "b"))) ≡ false
call_alone = refl

-- ---- a table, with a place in its cell

abbrev table_from : Option ℕ → Frames → Frames
table_from opens inside =
    more_frames (around (plain kind.Table) (map (char opens) (codes "{|"))
    (more_frames (whole (sep (page (codes "\n"))))
    (more_frames (around (plain kind.Tbody) [] (more_frames (around (plain kind.Tr) [] (more_frames (around (plain kind.Td) (page (codes "|")) inside []) no_frames) []) no_frames) [])
    no_frames)) (page (codes "\n|}"))) no_frames

abbrev in_cell : Frames
in_cell = more_frames (whole (sep (page (codes "\n")))) (more_frames (place 0) no_frames)

-- of the page itself: each of its nodes round the place is clean, and stays round it
of_page : AreClean old None (table_from None in_cell) None
of_page = ((refl, (tt, ((refl, ((refl, ((refl, (tt, (tt, tt))), tt)), tt)), tt))), tt)

holders_stay : kinds_of (nodes_of [] [] (table_from None in_cell))
    ≡ Some (kind.Table, codes "{|") ∷ Some (kind.Sep, codes "\n") ∷ Some (kind.Tbody, []) ∷ Some (kind.Tr, []) ∷ Some (kind.Td, codes "|") ∷ Some (kind.Sep, codes "\n") ∷ None ∷ []
holders_stay = refl

-- opened by a call: the table can only be kept as a whole, with what is in it
abbrev table_of : Option ℕ → List Item → ItemTree
table_of opens behind =
    node kind.Table (map (char opens) (codes "{|"))
    (node kind.Tbody [] (node kind.Tr [] (node kind.Td (page (codes "|")) (old 0 ∷ []) [] ∷ []) [] ∷ []) [] ∷ []) behind

opened_by_call : clean_at None None (table_of (Some 0) (page (codes "|}"))) ≡ false
opened_by_call = refl

-- and so is one that ends with an item of the call that follows
ended_by_call : clean_at None (Some 0) (table_of None (given 0 (codes "|}"))) ≡ false
ended_by_call = refl

-- ---- calls

-- `{{x}}` three bytes or five bytes after the page's beginning
five_bytes : AreMoved (a_call 3 (codes "{{x}}") ∷ []) (a_call 5 (codes "{{x}}") ∷ [])
five_bytes = (record { call = a_call 0 (codes "{{x}}"); first = 3; second = 5; was = refl; now = refl }, tt)
