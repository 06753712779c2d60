-- Worked cases of blocks that were retyped, by computing.
use Rattle.std.proofs.Common.{◌≡◌, Bool, true, false, None, Some, [], ◌∷◌, refl, sym, ap, ◌∙◌, inl, inr}
use Rattle.std.specs.Prelude.{codes}
use Rattle.std.specs.List.{AllByRecursion}
use Rattle.wt_span.specs.Items.{char, whole}
use Rattle.wt_span.specs.declared.form.ItemForm.TheVariants as form
use Rattle.wt_span.specs.Origins.{Expanded}
use Rattle.wt_span.specs.declared.tag_name.TagName.TheVariants as tag
use Rattle.wt_tree.specs.declared.kind.Kind.TheVariants as kind
use Rattle.wt_tree.specs.Tree.{Tree, label}
use Rattle.wt_original.specs.Kept.{Kept, kept_with}
use Rattle.wt_original.specs.Page.{page_of}
use Rattle.wt_slices.specs.Changes.{Pair}
use Rattle.wt_typed_blocks.specs.Edited.{no_pieces, gone, written, kept, around}
use Rattle.wt_link_spelling.specs.Spelling.{children_of}
use Rattle.wt_inside_laws.specs.Contents.{elements}
use Rattle.wt_inside_laws.specs.RetypedPieces.{pieces_of}
use Rattle.wt_text_edit_laws.specs.Unclosed.{holds_unclosed}
use Rattle.wt_inside_laws.specs.TextEdits.{IsUntouched, IsRetyped}
use Rattle.wt_inside_laws.proofs.Sources.{untrue}
use Rattle.wt_inside_laws.proofs.InsidesCases.{text, leaf, inner, group, para}

abbrev same : Tree → Tree → Bool
same t u = true

-- the page `a` without calls
abbrev page_a : Expanded
page_a = record { items = char None 97 ∷ []; outer = []; text_calls = [] }

-- signs of every kind typed in place of `a`
abbrev signs_for_a : Pair
signs_for_a = record { old = para (text (codes "a") ∷ []); new = para (text (codes "* [[x]] & ''y''") ∷ []) }

signs_typed : IsRetyped same page_a (codes "a") signs_for_a
unfolding kept_with
signs_typed = record {
  block = refl;
  untangled = refl;
  closed = refl;
  in_order = refl;
  untouched = tt;
  styled = tt;
  texts = (
    inr (record {
      breaks = refl;
      stays_empty = λ h e. absurd (untrue (sym h));
      stays_ended = λ h e. absurd (untrue (sym h));
      stays_tied = λ h. absurd (untrue (sym h));
    }),
    tt,
  );
  one_line = tt;
}

-- `a ''b'' __TOC__`: `c` typed in place of `b`, all else as it stood
abbrev b_for_c : Pair
b_for_c = record {
  old = para (text (codes "a ") ∷ inner kind.Italic 2 (codes "''") (text (codes "b") ∷ []) (codes "''") ∷ text (codes " ") ∷ leaf kind.Switch 3 (codes "__TOC__") ∷ []);
  new = para (text (codes "a ") ∷ inner kind.Italic 2 [] (text (codes "c") ∷ []) [] ∷ text (codes " ") ∷ leaf kind.Switch 3 [] ∷ []);
}

typed_in_style : IsRetyped same page_a (codes "a ''b'' __TOC__") b_for_c
unfolding kept_with
typed_in_style = record {
  block = refl;
  untangled = refl;
  closed = refl;
  in_order = refl;
  untouched = (record { kept = _; found = refl; kind = refl; unchanged = refl; inside = refl; groups = tt }, tt);
  styled = (record { kept = _; found = refl; alike = refl }, tt);
  texts = (
    inl refl,
    (
      inr (record {
        breaks = refl;
        stays_empty = λ h e. absurd (untrue (sym h));
        stays_ended = λ h e. absurd (untrue (sym h));
        stays_tied = λ h. absurd (untrue (sym h));
      }),
      (inl refl, (inl refl, tt)),
    ),
  );
  one_line = tt;
}

-- `a {{t}}`, where the call gives `b`: `c ` typed in place of `a `, and the group sent as the page's is, with a span for what it shows
abbrev c_before_a_call : Pair
c_before_a_call = record {
  old = para (text (codes "a ") ∷ group 2 (codes "{{t}}") (text (codes "b") ∷ []) ∷ []);
  new = para (text (codes "c ") ∷ group 2 [] (inner (kind.Tag tag.Span) 0 [] (text (codes "b") ∷ []) [] ∷ []) ∷ []);
}

group_untouched : AllByRecursion (IsUntouched (page_of same c_before_a_call.old)) (elements (children_of c_before_a_call.new))
unfolding kept_with
group_untouched = (record { kept = _; found = refl; kind = refl; unchanged = refl; inside = refl; groups = refl }, tt)

-- a group sent with the number of a switch isn't the page's element
of_kind : (k j : Kept) → Some k ≡ Some j → kind.Group ≡ (label j.node).kind → kind.Group ≡ (label k.node).kind
of_kind k j e h = let is : k ≡ j = cc in h ∙ sym (ap (λ (x : Kept). (label x.node).kind) is)

no_switch : IsUntouched (page_of same b_for_c.old) (leaf kind.Group 3 []) → ⊥
unfolding kept_with
no_switch h = absurd (let no : kind.Group ≡ kind.Switch = of_kind _ h.kept h.found h.kind in cc)

-- in pieces
pub typed_pieces : pieces_of (children_of b_for_c.old) (children_of b_for_c.new)
    ≡ gone (text (codes "a ")) (written (label (text (codes "a "))) (codes "a ")
    (around (label (inner kind.Italic 2 (codes "''") (text (codes "b") ∷ []) (codes "''"))) (label (inner kind.Italic 2 [] (text (codes "c") ∷ []) []))
    (gone (text (codes "b")) (written (label (text (codes "c"))) (codes "c") no_pieces))
    (gone (text (codes " ")) (written (label (text (codes " "))) (codes " ")
    (kept (leaf kind.Switch 3 (codes "__TOC__")) (leaf kind.Switch 3 []) no_pieces)))))
typed_pieces = refl

-- an unclosed comment: the block that goes up to the page's end holds it
unclosed : holds_unclosed (char None 97 ∷ whole form.Comment None (codes "<!-- b") ∷ []) (codes "a<!-- b")
    (Some (record { start = 0; end = 7; open_w = 0; close_w = 0 })) ≡ true
unclosed = refl

-- a closed one, one that a call gave, and a block before it
closed_comment : holds_unclosed (char None 97 ∷ whole form.Comment None (codes "<!-- b-->") ∷ []) (codes "a<!-- b-->")
    (Some (record { start = 0; end = 10; open_w = 0; close_w = 0 })) ≡ false
closed_comment = refl

of_a_call : holds_unclosed (char None 97 ∷ whole form.Comment (Some 0) (codes "<!-- b") ∷ []) (codes "a{{t}}")
    (Some (record { start = 0; end = 6; open_w = 0; close_w = 0 })) ≡ false
of_a_call = refl

before_it : holds_unclosed (char None 97 ∷ char None 10 ∷ char None 10 ∷ whole form.Comment None (codes "<!-- b") ∷ []) (codes "a\n\n<!-- b")
    (Some (record { start = 0; end = 1; open_w = 0; close_w = 0 })) ≡ false
before_it = refl
