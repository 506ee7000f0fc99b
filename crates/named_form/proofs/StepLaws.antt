-- The laws of the named machine's steps.
use Rattle.std.proofs.Common.{◌≡◌, ◌≤◌, ℕ, List, [], ◌++◌, Option, Some, None, refl, sym, ap, ◌∙◌, arith, append_assoc, append-nil, inl}
use Rattle.std.proofs.lemmas.List.{map-append}
use Rattle.std.proofs.Math.Seq.{map-set_same}
use Rattle.std.proofs.lemmas.Option.{get_or_from_slice_get}
use Rattle.std.specs.Prelude.{map, slice_get, slice_set}
use Rattle.scheme_base.specs.declared.env.Env.{Env}
use Rattle.scheme_base.specs.Outside.{Ending}
use Rattle.scheme_base.specs.Values.{Value, Box, Content, Thing, Holding, Procedure}
use Rattle.scheme_base.specs.Operations.{sight, plain_change, changed}
use Rattle.scheme_base.specs.Stops.{Stop}
use Rattle.scheme_base.specs.Runs.{GrowsByOne}
use Rattle.scheme_base.proofs.OperationLaws.{calls_once}
use Rattle.scheme_base.specs.Runs.{Lawful}
use Rattle.named_form.specs.Code.{Program}
use Rattle.named_form.specs.NamedRun.{Callee, Maker, Entry, Boxed, Point, World, State, store, box_at, box_number, with_content, step_from, step, trace_of, ending_from, ending_of, machine}
use Rattle.named_form.specs.Laws.{outline, lasting, maker_of, Keeps}
use Rattle.named_form.proofs.WorldsKept.{Stable, step_world}

-- traces

abbrev Grown : World → World → Type 0
Grown before w = GrowsByOne before.channels.calls.trace w.channels.calls.trace

grown_content : (before w : World) (o : Option Boxed) (n : ℕ) (v : Value) → Grown before w → Grown before (with_content o n v w)
grown_content before w None n v h = h
grown_content before w (Some b) n v h = h

grown_stable : (before : World) → Stable (Grown before)
grown_stable before =
    record {
      tops = λ w vars h. h;
      entries = λ w es h. h;
      changed = λ m w n c h. h;
      boxes = λ w bs h. h;
      contents = λ w box v h. grown_content before w (box_at w box) (box_number box) v h;
      points = λ w ps h. h;
      started = λ w h. h;
    }

pub grows : (p : Program) (env : Env) (s : State) → GrowsByOne (trace_of s) (trace_of (step p env s))
grows p env s =
    let w = s.world in
    step_world (Grown w) (grown_stable w) p env s (inl refl)
    (λ m o vs. calls_once env (sight (store m) w.entries) w.channels o vs)

stays_from : (o : Option Stop) (p : Program) (env : Env) (s : State) (e : Ending) → ending_from o ≡ Some e → step_from o p env s ≡ s
stays_from None p env s e h = cc
stays_from (Some stop) p env s e h = refl

pub stays : (p : Program) (env : Env) (s : State) (e : Ending) → ending_of s ≡ Some e → step p env s ≡ s
stays p env s e h = stays_from s.stop p env s e h

-- the machine stays where it has stopped, and makes one call a step at most
pub lawful : (p : Program) (env : Env) → Lawful (machine p env)
lawful p env = record { stays = stays p env; grows = grows p env }

-- objects, boxes, return points and activations

lasting_changed : (m : Maker) (es : List Entry) (n : ℕ) (c : Content) (o : Option Entry) → slice_get es n ≡ o
    → map lasting (changed (store m) es n c o) ≡ map lasting es
lasting_changed m es n c None e = refl
lasting_changed m es n c (Some t) e =
    map-set_same lasting es n (record t { thing = plain_change c t.thing }) t
    (ap (λ u. record { thing = u; maker = t.maker }) (same_outline t.thing)
    ∙ ap lasting (sym (get_or_from_slice_get es n t t e)))
  where
    same_outline : (u : Thing Callee) → outline (plain_change c u) ≡ outline u
    same_outline (Holding o d) = refl
    same_outline (Procedure f) = refl

-- how the parts of a world are kept
kept : (before w : World) (more : List Entry) → map lasting w.entries ≡ map lasting before.entries ++ more
    → (more_boxes : List Maker) → map maker_of w.boxes ≡ map maker_of before.boxes ++ more_boxes
    → (more_points : List Point) → w.points ≡ before.points ++ more_points → before.started ≤ w.started → Keeps before w
kept before w more entries more_boxes boxes more_points points started =
    record {
      more = more;
      entries = entries;
      more_boxes = more_boxes;
      boxes = boxes;
      more_points = more_points;
      points = points;
      started = started;
    }

makers_kept : (bs : List Boxed) (n : ℕ) (v : Value) (b : Boxed) → slice_get bs n ≡ Some b
    → map maker_of (slice_set bs n (record b { value = v })) ≡ map maker_of bs
makers_kept bs n v b e =
    map-set_same maker_of bs n (record b { value = v }) b
    (ap maker_of (sym (get_or_from_slice_get bs n b b e)))

content_kept : (before w : World) (n : ℕ) (v : Value) (o : Option Boxed) → slice_get w.boxes n ≡ o
    → Keeps before w → Keeps before (with_content o n v w)
content_kept before w n v None e h = h
content_kept before w n v (Some b) e h =
    kept before _ h.more h.entries h.more_boxes (makers_kept w.boxes n v b e ∙ h.boxes) h.more_points h.points h.started

contents_kept : (before w : World) (box v : Value) → Keeps before w → Keeps before (with_content (box_at w box) (box_number box) v w)
contents_kept before w (Box n) v h = content_kept before w n v (slice_get w.boxes n) refl h
contents_kept before w other v h = h

with_more : {A B : Type 0} (f : A → B) (xs ys : List A) (before more : List B) → map f xs ≡ before ++ more
    → map f (xs ++ ys) ≡ before ++ (more ++ map f ys)
with_more f xs ys before more e =
    map-append f xs ys ∙ (ap (λ zs. zs ++ map f ys) e ∙ append_assoc before more (map f ys))

keeps_stable : (before : World) → Stable (Keeps before)
keeps_stable before =
    record {
      tops = λ w vars h. kept before _ h.more h.entries h.more_boxes h.boxes h.more_points h.points h.started;
      entries = λ w es h.
          kept before _ (h.more ++ map lasting es)
          (with_more lasting w.entries es (map lasting before.entries) h.more h.entries)
          h.more_boxes h.boxes h.more_points h.points h.started;
      changed = λ m w n c h.
          kept before _ h.more (lasting_changed m w.entries n c (slice_get w.entries n) refl ∙ h.entries)
          h.more_boxes h.boxes h.more_points h.points h.started;
      boxes = λ w bs h.
          kept before _ h.more h.entries (h.more_boxes ++ map maker_of bs)
          (with_more maker_of w.boxes bs (map maker_of before.boxes) h.more_boxes h.boxes)
          h.more_points h.points h.started;
      contents = λ w box v h. contents_kept before w box v h;
      points = λ w ps h.
          kept before _ h.more h.entries h.more_boxes h.boxes (h.more_points ++ ps)
          (ap (λ xs. xs ++ ps) h.points ∙ append_assoc before.points h.more_points ps) h.started;
      started = λ w h.
          kept before _ h.more h.entries h.more_boxes h.boxes h.more_points h.points (omega (arith, h.started));
    }

pub keeps : (p : Program) (env : Env) (s : State) → Keeps s.world (step p env s).world
keeps p env s =
    let w = s.world in
    let same : Keeps w w =
    record {
      more = [];
      entries = sym (append-nil (map lasting w.entries));
      more_boxes = [];
      boxes = sym (append-nil (map maker_of w.boxes));
      more_points = [];
      points = sym (append-nil w.points);
      started = omega arith;
    }
    in
    step_world (Keeps w) (keeps_stable w) p env s same
    (λ m o vs. kept w _ same.more same.entries same.more_boxes same.boxes same.more_points same.points same.started)
