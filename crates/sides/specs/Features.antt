-- The features of a side (contact/features.rs). Definitions only; the names are the Rust's, with `Of` or `At` behind them.
use Rattle.std.specs.Prelude.{ℕ, ◌+◌, ◌-◌, ◌%◌, ◌≡◌, Bool, true, false, ◌||◌, cond, List, [], ◌∷◌, ◌++◌, map, reverse, eqb, ltb, length, take, get_or, Float, Option, Some, None, unwrap_or}
use Rattle.std.proofs.lemmas.List.Edits.{sets}
use Rattle.laws.specs.Loops.{join_in}
use Rattle.laws.specs.Fill.{range, filled}
use Rattle.ieee.specs.Operators.{◌⊕◌, ◌⊗◌}
use Rattle.ieee.specs.Consts.{zero_f, half_f}
use Rattle.ieee.specs.Num.{same_of}
use Rattle.geometry.specs.Geometry.{start_of, end_of}
use Rattle.geometry.specs.declared.Point.{Point}
use Rattle.geometry.specs.declared.Dir.{Dir}
use Rattle.geometry.specs.declared.Seg.{Seg}
use Rattle.corners.specs.Corners.{face_of, run_back, arc_of, corner_of}
use Rattle.mechanism.specs.Check.{same_point, side_drawn}
use Rattle.mechanism.specs.Description.{part_at, range_at}
use Rattle.mechanism.specs.declared.Parts.{Parts}
use Rattle.mechanism.specs.declared.Outlines.{Outlines}
use Rattle.mechanism.specs.declared.features.Piece.{Piece}
use Rattle.mechanism.specs.declared.pair.Surface.{Surface}
use Rattle.mechanism.specs.declared.part.Role.{Role}
use Rattle.mechanism.specs.declared.part.Role.TheVariants.{Solid, Cut, Lining}
use Rattle.mechanism.specs.declared.part.SurfaceRef.{SurfaceRef}
use Rattle.bodies.specs.declared.pose.MaterialPoint.{MaterialPoint}
use Rattle.silhouette.specs.Silhouette.{no_line, axis_of, silhouette_at}
use Rattle.sides.specs.declared.PlacedFace.{PlacedFace}
use Rattle.sides.specs.declared.PlacedDisc.{PlacedDisc}
use Rattle.sides.specs.declared.Step.{Step}
use Rattle.sides.specs.declared.Steps.{Steps}
use Rattle.sides.specs.declared.Traversal.{Traversal}
use Rattle.sides.specs.declared.Traversals.{Traversals}
use Rattle.sides.specs.declared.Features.{Features}
use Rattle.sides.specs.declared.SideFeatures.{SideFeatures}
use Rattle.geometry.specs.declared.signed.Disc.{Disc}
use Rattle.geometry.specs.declared.signed.Face.{Face}

-- ---- one range, as the material that it bounds runs
-- What `side` reads of a range: the Rust's Traversal (a step is an entry of `segs` with that of `starts`), and beside it the part, whether it is a
-- cut, whether the range is the whole silhouette, and the segment that names the vertex at its end.
pub record Run : Type 0 where
  pub part : ℕ
  pub cut : Bool
  pub count : ℕ
  pub steps : List Step
  pub before : Option Seg
  pub after : Option Seg
  pub wrapped : Bool
  pub ends : ℕ

abbrev pub seg_in : List Seg → ℕ → Seg
seg_in sil i = get_or sil i no_line

abbrev pub forward_step : List Seg → ℕ → Step
forward_step sil i = record { named = i % length sil; starts = i % length sil; seg = Some (seg_in sil i) }

-- run backwards, a segment starts where it ends as drawn, which is where the next one drawn starts
abbrev pub backward_step : List Seg → ℕ → Step
backward_step sil i = record { named = i % length sil; starts = (i + 1) % length sil; seg = run_back (seg_in sil i) }

unfoldable pub forward_of : SurfaceRef → List Seg → Run
forward_of r sil =
    let n = length sil in
    record {
      part = r.part;
      cut = false;
      count = r.end - r.start;
      steps = map (forward_step sil) (range r.start r.end);
      before = Some (seg_in sil ((r.start + n - 1) % n));
      after = Some (seg_in sil (r.end % n));
      wrapped = eqb (r.end - r.start) n;
      ends = r.end % n;
    }

unfoldable pub backward_of : SurfaceRef → List Seg → Run
backward_of r sil =
    let n = length sil in
    record {
      part = r.part;
      cut = true;
      count = r.end - r.start;
      steps = map (backward_step sil) (reverse (range r.start r.end));
      before = run_back (seg_in sil (r.end % n));
      after = run_back (seg_in sil ((r.start + n - 1) % n));
      wrapped = eqb (r.end - r.start) n;
      ends = r.start;
    }

abbrev pub traverse_of : SurfaceRef → List Seg → Role → Run
traverse_of r sil Cut = backward_of r sil
traverse_of r sil Solid = forward_of r sil
traverse_of r sil Lining = forward_of r sil

-- ---- one segment's features
abbrev pub placed_face : Piece → Option Face → List PlacedFace
placed_face p None = []
placed_face p (Some f) = record { piece = p; face = f } ∷ []

abbrev pub placed_disc : Piece → Option Disc → List PlacedDisc
placed_disc p None = []
placed_disc p (Some d) = record { piece = p; disc = d } ∷ []

abbrev pub faces_of_seg : ℕ → ℕ → Option Seg → List PlacedFace
faces_of_seg part named None = []
faces_of_seg part named (Some g) = placed_face (Piece.Segment part named) (face_of g)

abbrev pub discs_of_seg : ℕ → Bool → ℕ → ℕ → Option Seg → Option Seg → List PlacedDisc
discs_of_seg part cut named starts previous None = []
discs_of_seg part cut named starts previous (Some g) =
    placed_disc (Piece.Arc part named) (arc_of cut g) ++ placed_disc (Piece.Vertex part starts) (corner_of previous g)

abbrev pub faces_at : ℕ → Step → List PlacedFace
faces_at part s = faces_of_seg part s.named s.seg

abbrev pub discs_at : ℕ → Bool → Option Seg → Step → List PlacedDisc
discs_at part cut previous s = discs_of_seg part cut s.named s.starts previous s.seg

-- ---- one range's features
abbrev pub no_step : Step
no_step = record { named = 0; starts = 0; seg = None }

abbrev pub step_at : Run → ℕ → Step
step_at t i = get_or t.steps i no_step

abbrev pub first_seg : Run → Option Seg
first_seg t = (step_at t 0).seg

abbrev pub last_seg : Run → Option Seg
last_seg t = (step_at t (t.count - 1)).seg

-- one range ends where the other starts, bit for bit
abbrev pub meets : Option Seg → Option Seg → Bool
meets None q = false
meets (Some p) None = false
meets (Some p) (Some q) = same_point (end_of p) (start_of q)

-- before the range's first segment: the last of the range before, where the two are one chain, or its own outline's
abbrev pub opening : Run → Option Seg → Option Seg
opening t last = cond (meets last (first_seg t)) last t.before

-- the segment before step i
abbrev pub previous_at : Run → Option Seg → ℕ → Option Seg
previous_at t first i = cond (ltb 0 i) (step_at t (i - 1)).seg first

abbrev pub between : Option Seg → Option Seg → Option Disc
between last None = None
between last (Some after) = corner_of last after

unfoldable pub range_faces : Run → List PlacedFace
range_faces t = join_in (λ i. faces_at t.part (step_at t i)) t.count 0

unfoldable pub step_discs : Run → Option Seg → ℕ → List PlacedDisc
step_discs t first i = discs_at t.part t.cut (previous_at t first i) (step_at t i)

-- the vertex that the range ends at, unless the next range starts there, or the range runs round the whole silhouette
unfoldable pub end_discs : Run → Option Seg → List PlacedDisc
end_discs t next = cond (meets (last_seg t) next || t.wrapped) [] (placed_disc (Piece.Vertex t.part t.ends) (between (last_seg t) t.after))

-- `last` is the last segment of the range before, `next` the first of the range behind, where there is one
unfoldable pub range_discs : Run → Option Seg → Option Seg → List PlacedDisc
range_discs t last next = join_in (step_discs t (opening t last)) t.count 0 ++ end_discs t next

-- ---- a side's features
abbrev pub no_run : Run
no_run = record { part = 0; cut = false; count = 0; steps = []; before = None; after = None; wrapped = false; ends = 0 }

abbrev pub run_at : List Run → ℕ → Run
run_at ts k = get_or ts k no_run

abbrev pub last_before : List Run → ℕ → Option Seg
last_before ts k = cond (ltb 0 k) (last_seg (run_at ts (k - 1))) None

abbrev pub first_after : List Run → ℕ → Option Seg
first_after ts k = cond (ltb (k + 1) (length ts)) (first_seg (run_at ts (k + 1))) None

abbrev pub faces_of_range : List Run → ℕ → List PlacedFace
faces_of_range ts k = range_faces (run_at ts k)

abbrev pub discs_of_range : List Run → ℕ → List PlacedDisc
discs_of_range ts k = range_discs (run_at ts k) (last_before ts k) (first_after ts k)

unfoldable pub faces_of : List Run → List PlacedFace
faces_of ts = join_in (faces_of_range ts) (length ts) 0

unfoldable pub discs_of : List Run → List PlacedDisc
discs_of ts = join_in (discs_of_range ts) (length ts) 0

-- ---- the centre of a side's drawn face
-- the first point on the axis, bit for bit
unfoldable pub crossing_of : Float → List Point → Option Point
crossing_of axis [] = None
crossing_of axis (p ∷ ps) = cond (same_of p.x axis) (Some p) (crossing_of axis ps)

abbrev pub middle_of : Point → Point → Point
middle_of p q = record { x = half_f ⊗ (p.x ⊕ q.x); y = half_f ⊗ (p.y ⊕ q.y) }

-- where a centre is wanted and the first part is turned: the first start on the axis behind the range's first segment
abbrev pub on_axis : Bool → Option Float → List Seg → SurfaceRef → Option Point
on_axis false a sil r = None
on_axis true None sil r = None
on_axis true (Some axis) sil r = crossing_of axis (map (λ i. start_of (seg_in sil i)) (range (r.start + 1) r.end))

-- otherwise the middle of the chord from the first range's start to the last one's end
unfoldable pub center_of : Bool → Option Float → List Seg → SurfaceRef → List Seg → SurfaceRef → Point
center_of wanted axis sil first lastSil last =
    unwrap_or (on_axis wanted axis sil first) (middle_of (start_of (seg_in sil first.start)) (end_of (seg_in lastSil (last.end - 1))))

-- ---- from the description
abbrev pub traversal_of : Parts → Outlines → SurfaceRef → Run
traversal_of ps o r = traverse_of r (silhouette_at ps o r.part) (part_at ps r.part).role

abbrev pub ranges_of : Surface → List SurfaceRef
ranges_of u = take u.count u.range

abbrev pub traversals_of : Parts → Outlines → Surface → List Run
traversals_of ps o u = map (traversal_of ps o) (ranges_of u)

abbrev pub first_range : Surface → SurfaceRef
first_range u = range_at u 0

abbrev pub last_range : Surface → SurfaceRef
last_range u = range_at u (u.count - 1)

unfoldable pub center_at : Parts → Outlines → Surface → Bool → Point
center_at ps o u wanted =
    let first = first_range u in
    let last = last_range u in
    center_of wanted (axis_of (part_at ps first.part).sweep) (silhouette_at ps o first.part) first (silhouette_at ps o last.part) last

-- ---- in arrays: twelve faces, 28 discs; what stands past a count is always the same
abbrev pub no_point : Point
no_point = record { x = zero_f; y = zero_f }

abbrev pub no_dir : Dir
no_dir = record { x = zero_f; y = zero_f }

abbrev pub no_face : PlacedFace
no_face = record { piece = Piece.Center 0; face = record { a = no_point; b = no_point; normal = no_dir } }

abbrev pub no_disc : PlacedDisc
no_disc = record { piece = Piece.Center 0; disc = record { center = no_point; radius = zero_f; from = no_dir; to = no_dir } }

abbrev pub side_from : ℕ → List PlacedFace → List PlacedDisc → Piece → Point → SideFeatures
side_from body fs ds piece center = record {
  body = body;
  faces = length fs;
  face = filled 12 no_face fs;
  discs = length ds;
  disc = filled 28 no_disc ds;
  center = record { piece = piece; point = center };
}

-- the faces and discs that count
abbrev pub faces_in : SideFeatures → List PlacedFace
faces_in s = take s.faces s.face

abbrev pub discs_in : SideFeatures → List PlacedDisc
discs_in s = take s.discs s.disc

-- one side of a pair; `wanted` says whether its centre on the axis is asked for
unfoldable pub side_of : Parts → Outlines → Surface → Bool → SideFeatures
side_of ps o u wanted =
    let ts = traversals_of ps o u in
    let first = (first_range u).part in
    side_from (part_at ps first).body (faces_of ts) (discs_of ts) (Piece.Center first) (center_at ps o u wanted)

-- of any values: the centre of a side that is drawn, otherwise the ground's origin
unfoldable pub center_of_side : Parts → Outlines → Surface → Bool → MaterialPoint
center_of_side ps o u wanted = cond (side_drawn ps u) (record { body = (part_at ps (first_range u).part).body; at = center_at ps o u wanted }) (record { body = 0; at = no_point })

-- ---- what the code's own structs hold
abbrev pub run_of : Traversal → Run
run_of t = record { part = t.part; cut = t.cut; count = t.count; steps = take t.count t.steps; before = t.before; after = t.after; wrapped = t.wrapped; ends = t.ends }

abbrev pub steps_in : Steps → List Step
steps_in s = take s.count s.step

abbrev pub runs_in : Traversals → List Run
runs_in t = map run_of (take t.count t.traversal)

-- r is f with fs and ds behind its faces and discs
pub record Grown (f r : Features) (fs : List PlacedFace) (ds : List PlacedDisc) : Type 0 where
  pub all_faces : r.face ≡ sets f.face f.faces fs
  pub all_discs : r.disc ≡ sets f.disc f.discs ds
  pub more_faces : r.faces ≡ f.faces + length fs
  pub more_discs : r.discs ≡ f.discs + length ds
