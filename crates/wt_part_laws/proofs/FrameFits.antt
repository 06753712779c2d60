-- What is made of stretches with places for blocks among them, whatever blocks are there: stretches with the same places.
use Rattle.std.proofs.Common.{◌≡◌, ℕ, List, [], ◌∷◌, ◌++◌, map, refl, sym, ap, ap₂, ◌∙◌, append-nil, append_assoc}
use Rattle.std.proofs.lemmas.List.{map-append}
use Rattle.wt_span.specs.Items.{Item}
use Rattle.wt_inline.specs.ItemTree.{Head, ItemTree, inner, forest}
use Rattle.wt_inline.specs.Parts.{node, children}
use Rattle.wt_page.specs.Stretches.{Stretch, is_gap, stretches_parts, front_gaps, past_front, before_end, end_gaps, tree_block, node_of, opened_by, enclosed}
use Rattle.wt_part_laws.specs.Frames.{Frame, place, whole, around, Frames, no_frames, more_frames, tree_at, trees_at, places_in, all_places, Part, Holds, IsFrame, AreFrames}
use Rattle.wt_part_laws.proofs.Fitting.{before_last, behind_last, first_taken, rest_dropped, parts_round, round_node}

-- ---- stretches with places

pub data StretchFrame : Type 0 where
  fixed : Stretch → StretchFrame
  at : Frame → StretchFrame

abbrev pub stretch_at : (ℕ → ItemTree) → StretchFrame → Stretch
stretch_at t (fixed s) = s
stretch_at t (at f) = tree_block (tree_at t f)

abbrev pub filled_all : (ℕ → ItemTree) → List StretchFrame → List Stretch
filled_all t fs = map (stretch_at t) fs

abbrev pub stretch_places : List StretchFrame → List ℕ
stretch_places [] = []
stretch_places (fixed s ∷ fs) = stretch_places fs
stretch_places (at f ∷ fs) = places_in f ++ stretch_places fs

abbrev pub AreIn : Part → List StretchFrame → Type 0
AreIn p [] = Unit {0}
AreIn p (fixed s ∷ fs) = AreIn p fs
AreIn p (at f ∷ fs) = IsFrame f p × AreIn p fs

abbrev pub all_fixed : List Stretch → List StretchFrame
all_fixed us = map fixed us

fixed_filled : (t : ℕ → ItemTree) (us : List Stretch) → filled_all t (all_fixed us) ≡ us
fixed_filled t [] = refl
fixed_filled t (u ∷ us) = ap (λ ss. u ∷ ss) (fixed_filled t us)

fixed_places : (us : List Stretch) (fs : List StretchFrame) → stretch_places (all_fixed us ++ fs) ≡ stretch_places fs
fixed_places [] fs = refl
fixed_places (u ∷ us) fs = fixed_places us fs

fixed_in : (p : Part) (us : List Stretch) (fs : List StretchFrame) → AreIn p fs → AreIn p (all_fixed us ++ fs)
fixed_in p [] fs h = h
fixed_in p (u ∷ us) fs h = fixed_in p us fs h

fixed_before : (t : ℕ → ItemTree) (us : List Stretch) (fs : List StretchFrame) → filled_all t (all_fixed us ++ fs) ≡ us ++ filled_all t fs
fixed_before t us fs = map-append (stretch_at t) (all_fixed us) fs ∙ ap (λ ss. ss ++ filled_all t fs) (fixed_filled t us)

places_join : (fs gs : List StretchFrame) → stretch_places (fs ++ gs) ≡ stretch_places fs ++ stretch_places gs
places_join [] gs = refl
places_join (fixed s ∷ fs) gs = places_join fs gs
places_join (at f ∷ fs) gs = ap (λ ns. places_in f ++ ns) (places_join fs gs) ∙ sym (append_assoc (places_in f) (stretch_places fs) (stretch_places gs))

in_join : (p : Part) (fs gs : List StretchFrame) → AreIn p fs → AreIn p gs → AreIn p (fs ++ gs)
in_join p [] gs h g = g
in_join p (fixed s ∷ fs) gs h g = in_join p fs gs h g
in_join p (at f ∷ fs) gs h g = (h.0, in_join p fs gs h.1 g)

-- ---- the children that they make, behind these fixed ones

abbrev pub wholes : List ItemTree → Frames → Frames
wholes [] fs = fs
wholes (u ∷ us) fs = more_frames (whole u) (wholes us fs)

wholes_trees : (t : ℕ → ItemTree) (us : List ItemTree) (fs : Frames) → trees_at t (wholes us fs) ≡ us ++ trees_at t fs
wholes_trees t [] fs = refl
wholes_trees t (u ∷ us) fs = ap (λ vs. u ∷ vs) (wholes_trees t us fs)

wholes_places : (us : List ItemTree) (fs : Frames) → all_places (wholes us fs) ≡ all_places fs
wholes_places [] fs = refl
wholes_places (u ∷ us) fs = wholes_places us fs

wholes_in : (p : Part) (us : List ItemTree) (fs : Frames) → AreFrames fs p → AreFrames (wholes us fs) p
wholes_in p [] fs h = h
wholes_in p (u ∷ us) fs h = (tt, wholes_in p us fs h)

abbrev pub frames_from : List Stretch → List StretchFrame → Frames
frames_from us [] = wholes (children (stretches_parts us)) no_frames
frames_from us (fixed s ∷ fs) = frames_from (us ++ s ∷ []) fs
frames_from us (at f ∷ fs) = wholes (children (stretches_parts us)) (more_frames f (frames_from [] fs))

pub frames_children : (t : ℕ → ItemTree) (us : List Stretch) (fs : List StretchFrame)
    → children (stretches_parts (us ++ filled_all t fs)) ≡ trees_at t (frames_from us fs)
frames_children t us [] =
    let own : List ItemTree = children (stretches_parts us) in
    ap (λ ss. children (stretches_parts ss)) (append-nil us) ∙ sym (append-nil own) ∙ sym (wholes_trees t own no_frames)
frames_children t us (fixed s ∷ fs) =
    ap (λ ss. children (stretches_parts ss)) (sym (append_assoc us (s ∷ []) (filled_all t fs))) ∙ frames_children t (us ++ s ∷ []) fs
frames_children t us (at f ∷ fs) =
    let own : List ItemTree = children (stretches_parts us) in
    let rest : List Stretch = filled_all t fs in
    ap children (parts_round us rest (tree_at t f))
    ∙ round_node (tree_at t f) (stretches_parts us) (stretches_parts rest)
    ∙ ap (λ vs. own ++ tree_at t f ∷ vs) (frames_children t [] fs)
    ∙ sym (wholes_trees t own (more_frames f (frames_from [] fs)))

pub frames_places : (us : List Stretch) (fs : List StretchFrame) → all_places (frames_from us fs) ≡ stretch_places fs
frames_places us [] = wholes_places (children (stretches_parts us)) no_frames
frames_places us (fixed s ∷ fs) = frames_places (us ++ s ∷ []) fs
frames_places us (at f ∷ fs) =
    wholes_places (children (stretches_parts us)) (more_frames f (frames_from [] fs)) ∙ ap (λ ns. places_in f ++ ns) (frames_places [] fs)

pub frames_in : (p : Part) (us : List Stretch) (fs : List StretchFrame) → AreIn p fs → AreFrames (frames_from us fs) p
frames_in p us [] h = wholes_in p (children (stretches_parts us)) no_frames tt
frames_in p us (fixed s ∷ fs) h = frames_in p (us ++ s ∷ []) fs h
frames_in p us (at f ∷ fs) h = wholes_in p (children (stretches_parts us)) (more_frames f (frames_from [] fs)) (h.0, frames_in p [] fs h.1)

-- ---- gaps at the ends

abbrev before_frames : List Stretch → List StretchFrame → List StretchFrame
before_frames us [] = all_fixed (before_end us)
before_frames us (fixed s ∷ fs) = before_frames (us ++ s ∷ []) fs
before_frames us (at f ∷ fs) = all_fixed us ++ at f ∷ before_frames [] fs

abbrev end_stretches : List Stretch → List StretchFrame → List Stretch
end_stretches us [] = end_gaps us
end_stretches us (fixed s ∷ fs) = end_stretches (us ++ s ∷ []) fs
end_stretches us (at f ∷ fs) = end_stretches [] fs

before_filled : (t : ℕ → ItemTree) (us : List Stretch) (fs : List StretchFrame) → before_end (us ++ filled_all t fs) ≡ filled_all t (before_frames us fs)
before_filled t us [] = ap before_end (append-nil us) ∙ sym (fixed_filled t (before_end us))
before_filled t us (fixed s ∷ fs) = ap before_end (sym (append_assoc us (s ∷ []) (filled_all t fs))) ∙ before_filled t (us ++ s ∷ []) fs
before_filled t us (at f ∷ fs) =
    before_last us (node (tree_at t f) ∷ []) (filled_all t fs)
    ∙ ap (λ ss. us ++ tree_block (tree_at t f) ∷ ss) (before_filled t [] fs)
    ∙ sym (fixed_before t us (at f ∷ before_frames [] fs))

end_filled : (t : ℕ → ItemTree) (us : List Stretch) (fs : List StretchFrame) → end_gaps (us ++ filled_all t fs) ≡ end_stretches us fs
end_filled t us [] = ap end_gaps (append-nil us)
end_filled t us (fixed s ∷ fs) = ap end_gaps (sym (append_assoc us (s ∷ []) (filled_all t fs))) ∙ end_filled t (us ++ s ∷ []) fs
end_filled t us (at f ∷ fs) = behind_last us (node (tree_at t f) ∷ []) (filled_all t fs) ∙ end_filled t [] fs

before_places : (us : List Stretch) (fs : List StretchFrame) → stretch_places (before_frames us fs) ≡ stretch_places fs
before_places us [] = ap stretch_places (sym (append-nil (all_fixed (before_end us)))) ∙ fixed_places (before_end us) []
before_places us (fixed s ∷ fs) = before_places (us ++ s ∷ []) fs
before_places us (at f ∷ fs) = fixed_places us (at f ∷ before_frames [] fs) ∙ ap (λ ns. places_in f ++ ns) (before_places [] fs)

all_in : (p : Part) (us : List Stretch) → AreIn p (all_fixed us)
all_in p [] = tt
all_in p (u ∷ us) = all_in p us

before_in : (p : Part) (us : List Stretch) (fs : List StretchFrame) → AreIn p fs → AreIn p (before_frames us fs)
before_in p us [] h = all_in p (before_end us)
before_in p us (fixed s ∷ fs) h = before_in p (us ++ s ∷ []) fs h
before_in p us (at f ∷ fs) h = fixed_in p us (at f ∷ before_frames [] fs) (h.0, before_in p [] fs h.1)

abbrev front_stretches : List Stretch → List StretchFrame → List Stretch
front_stretches us [] = front_gaps us
front_stretches us (fixed s ∷ fs) = front_stretches (us ++ s ∷ []) fs
front_stretches us (at f ∷ fs) = front_gaps us

abbrev past_frames : List Stretch → List StretchFrame → List StretchFrame
past_frames us [] = all_fixed (past_front us)
past_frames us (fixed s ∷ fs) = past_frames (us ++ s ∷ []) fs
past_frames us (at f ∷ fs) = all_fixed (past_front us) ++ at f ∷ fs

front_filled : (t : ℕ → ItemTree) (us : List Stretch) (fs : List StretchFrame) → front_gaps (us ++ filled_all t fs) ≡ front_stretches us fs
front_filled t us [] = ap front_gaps (append-nil us)
front_filled t us (fixed s ∷ fs) = ap front_gaps (sym (append_assoc us (s ∷ []) (filled_all t fs))) ∙ front_filled t (us ++ s ∷ []) fs
front_filled t us (at f ∷ fs) = first_taken is_gap us (tree_block (tree_at t f)) (filled_all t fs) refl

past_filled : (t : ℕ → ItemTree) (us : List Stretch) (fs : List StretchFrame) → past_front (us ++ filled_all t fs) ≡ filled_all t (past_frames us fs)
past_filled t us [] = ap past_front (append-nil us) ∙ sym (fixed_filled t (past_front us))
past_filled t us (fixed s ∷ fs) = ap past_front (sym (append_assoc us (s ∷ []) (filled_all t fs))) ∙ past_filled t (us ++ s ∷ []) fs
past_filled t us (at f ∷ fs) =
    rest_dropped is_gap us (tree_block (tree_at t f)) (filled_all t fs) refl ∙ sym (fixed_before t (past_front us) (at f ∷ fs))

past_places : (us : List Stretch) (fs : List StretchFrame) → stretch_places (past_frames us fs) ≡ stretch_places fs
past_places us [] = ap stretch_places (sym (append-nil (all_fixed (past_front us)))) ∙ fixed_places (past_front us) []
past_places us (fixed s ∷ fs) = past_places (us ++ s ∷ []) fs
past_places us (at f ∷ fs) = fixed_places (past_front us) (at f ∷ fs)

past_in : (p : Part) (us : List Stretch) (fs : List StretchFrame) → AreIn p fs → AreIn p (past_frames us fs)
past_in p us [] h = all_in p (past_front us)
past_in p us (fixed s ∷ fs) h = past_in p (us ++ s ∷ []) fs h
past_in p us (at f ∷ fs) h = fixed_in p (past_front us) (at f ∷ fs) h

-- ---- whatever blocks are at the places

pub record FitsAll (E : Type 0) (t : E → ℕ → ItemTree) (p : Part) (ns : List ℕ) (f : E → List Stretch) : Type 0 where
  pub frames : List StretchFrame
  pub held : AreIn p frames
  pub order : stretch_places frames ≡ ns
  pub is : (e : E) → f e ≡ filled_all (t e) frames

pub same_fit : {E : Type 0} (t : E → ℕ → ItemTree) (p : Part) (ns : List ℕ) (f g : E → List Stretch) → ((e : E) → f e ≡ g e) → FitsAll E t p ns g → FitsAll E t p ns f
same_fit t p ns f g s h = record { frames = h.frames; held = h.held; order = h.order; is = λ e. s e ∙ h.is e }

-- the same, whatever blocks there are
pub fixed_fit : {E : Type 0} (t : E → ℕ → ItemTree) (p : Part) (us : List Stretch) → FitsAll E t p [] (λ e. us)
fixed_fit t p us = record {
  frames = all_fixed us;
  held = all_in p us;
  order = ap stretch_places (sym (append-nil (all_fixed us))) ∙ fixed_places us [];
  is = λ e. sym (fixed_filled (t e) us);
}

-- one after the other
pub joined_fit : {E : Type 0} (t : E → ℕ → ItemTree) (p : Part) (ms ns : List ℕ) (f g : E → List Stretch) → FitsAll E t p ms f → FitsAll E t p ns g
    → FitsAll E t p (ms ++ ns) (λ e. f e ++ g e)
joined_fit t p ms ns f g h k = record {
  frames = h.frames ++ k.frames;
  held = in_join p h.frames k.frames h.held k.held;
  order = places_join h.frames k.frames ∙ ap₂ (λ xs ys. xs ++ ys) h.order k.order;
  is = λ e. ap₂ (λ xs ys. xs ++ ys) (h.is e) (k.is e) ∙ sym (map-append (stretch_at (t e)) h.frames k.frames);
}

-- a place
pub place_fit : {E : Type 0} (t : E → ℕ → ItemTree) (p : Part) (n : ℕ) → IsFrame (place n) p → FitsAll E t p (n ∷ []) (λ e. tree_block (t e n) ∷ [])
place_fit t p n h = record { frames = at (place n) ∷ []; held = (h, tt); order = refl; is = λ e. refl }

-- a node round them
node_is : (t : ℕ → ItemTree) (h : Head) (o c : List Item) (fs : List StretchFrame) → node_of h o (filled_all t fs) c ≡ tree_at t (around h o (frames_from [] fs) c)
node_is t h o c fs = ap (λ us. inner h o (forest us) c) (frames_children t [] fs)

pub node_fit : {E : Type 0} (t : E → ℕ → ItemTree) (p q : Part) (ns : List ℕ) (f : E → List Stretch) (h : Head) (o c : List Item) → Holds p h.kind q
    → FitsAll E t q ns f → FitsAll E t p ns (λ e. tree_block (node_of h o (f e) c) ∷ [])
node_fit t p q ns f h o c k g = record {
  frames = at (around h o (frames_from [] g.frames) c) ∷ [];
  held = ((q, k, frames_in q [] g.frames g.held), tt);
  order = append-nil (all_places (frames_from [] g.frames)) ∙ frames_places [] g.frames ∙ g.order;
  is = λ e. ap (λ ss. tree_block (node_of h o ss c) ∷ []) (g.is e) ∙ ap (λ u. tree_block u ∷ []) (node_is (t e) h o c g.frames);
}

pub opened_fit : {E : Type 0} (t : E → ℕ → ItemTree) (p q : Part) (ns : List ℕ) (f : E → List Stretch) (h : Head) (o : List Item) → Holds p h.kind q
    → FitsAll E t q ns f → FitsAll E t p ns (λ e. opened_by h o (f e))
opened_fit t p q ns f h o k g =
    let fs : List StretchFrame = before_frames [] g.frames in
    record {
      frames = at (around h o (frames_from [] fs) []) ∷ all_fixed (end_stretches [] g.frames);
      held = ((q, k, frames_in q [] fs (before_in q [] g.frames g.held)), all_in p (end_stretches [] g.frames));
      order =
          ap (λ ns. all_places (frames_from [] fs) ++ ns) (ap stretch_places (sym (append-nil (all_fixed (end_stretches [] g.frames)))) ∙ fixed_places (end_stretches [] g.frames) [])
          ∙ append-nil (all_places (frames_from [] fs))
          ∙ frames_places [] fs ∙ before_places [] g.frames ∙ g.order;
      is = λ e.
          ap (opened_by h o) (g.is e)
          ∙ ap₂ (λ ss us. tree_block (node_of h o ss []) ∷ us) (before_filled (t e) [] g.frames) (end_filled (t e) [] g.frames)
          ∙ ap₂ (λ u us. tree_block u ∷ us) (node_is (t e) h o [] fs) (sym (fixed_filled (t e) (end_stretches [] g.frames)));
    }

pub enclosed_fit : {E : Type 0} (t : E → ℕ → ItemTree) (p q : Part) (ns : List ℕ) (f : E → List Stretch) (h : Head) → Holds p h.kind q
    → FitsAll E t q ns f → FitsAll E t p ns (λ e. enclosed h (f e))
enclosed_fit {E} t p q ns f h k g =
    let us : List Stretch = front_stretches [] g.frames in
    let fs : List StretchFrame = past_frames [] g.frames in
    let past : FitsAll E t q ns (λ e. filled_all (t e) fs) =
    record { frames = fs; held = past_in q [] g.frames g.held; order = past_places [] g.frames ∙ g.order; is = λ e. refl } in
    same_fit t p ns (λ e. enclosed h (f e)) (λ e. us ++ opened_by h [] (filled_all (t e) fs))
    (λ e. ap (enclosed h) (g.is e) ∙ ap₂ (λ ss vs. ss ++ opened_by h [] vs) (front_filled (t e) [] g.frames) (past_filled (t e) [] g.frames))
    (joined_fit t p [] ns (λ e. us) (λ e. opened_by h [] (filled_all (t e) fs)) (fixed_fit t p us)
    (opened_fit t p q ns (λ e. filled_all (t e) fs) h [] k past))
