-- Clean nodes: those that can be edited by themselves, since no call reaches over one of their places.
-- Cuts are counted in the items that the whole tree holds, in which each `nowiki` is opened. So the places between what
-- is in a `nowiki` of the page are free cuts, and those in one of a call are not, as between any other characters.
use Rattle.std.specs.Prelude.{ℕ, ◌+◌, Bool, true, false, ◌&&◌, ◌||◌, Option, Some, None, List, ◌++◌, length}
use Rattle.std.specs.List.{list_all, list_any}
use Rattle.wt_tree.specs.declared.kind.Kind.{Kind}
use Rattle.wt_tree.specs.declared.kind.Kind.TheVariants as kind
use Rattle.wt_tree.specs.Kinds.{is_leaf}
use Rattle.wt_span.specs.Items.{Item, call_of}
use Rattle.wt_span.specs.Cuts.{is_free}
use Rattle.wt_inline.specs.ItemTree.{ItemTree, inner, held_by_all}

abbrev pub is_no_call : Option ℕ → Bool
is_no_call None = true
is_no_call (Some k) = false

-- an item of the page itself
abbrev pub is_page : Item → Bool
is_page x = is_no_call (call_of x)

abbrev pub is_body : Kind → Bool
is_body kind.Body = true
is_body k = false

-- a node's own items: its delimiters, or all of a leaf
abbrev pub own_by : Bool → List Item → List Item → List Item → List Item
own_by true opening inside closing = opening ++ (inside ++ closing)
own_by false opening inside closing = opening ++ closing

-- Its four places are free cuts, none of its own items comes from a call, and it is the body or holds an item that is no
-- call's. `n` items come before it.
abbrev pub is_clean : List Item → ℕ → ItemTree → Bool
is_clean all n (inner h opening ts closing) =
    is_free all n && (is_free all (n + length opening)
    && (is_free all (n + length opening + length (held_by_all ts))
    && (is_free all (n + length opening + length (held_by_all ts) + length closing)
    && (list_all is_page (own_by (is_leaf h.kind) opening (held_by_all ts) closing)
    && (is_body h.kind || list_any is_page (opening ++ (held_by_all ts ++ closing)))))))
