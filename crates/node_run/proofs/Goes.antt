-- One turn more, where clock and link tell.
use Rattle.std.proofs.Common.{◌≡◌, ◌≤◌, ℕ, true, false, List, [], ◌∷◌, ◌++◌, length, Option, Some, None, Result, Ok, Err, refl, sym, subst, arith, append-nil, append_assoc}
use Rattle.std.specs.Prelude.{IfErr, OnOk}
use Rattle.outside_io.specs.Link.{Answer, Received, Sent}
use Rattle.outside_io.specs.Telling.{Tells}
use Rattle.outside_io.specs.declared.failed.Failed.{Failed}
use Rattle.node_spec.specs.Turns.{Input, Arrived, Ticked}
use Rattle.node_core.specs.Opening.{OpensTo}
use Rattle.node_core.specs.Sending.{Handed}
use Rattle.node_core.proofs.Sends.{handed_none}
use Rattle.node_run.specs.Timing.{Timing, timed}
use Rattle.node_run.specs.Turns.{Course, Reaches, Steps, at, begun, entry_list, handled}
use Rattle.node_run.specs.Serving.{HasDone, LeavesEither, PassesBound, ReachesFront, Follows, Serves, Since, Standing, State, StopsIn, Stops}
use Rattle.node_run.specs.Going.{Going, GoesOn, GoesTo, Handled, NotHandled, StopsAt}
use Rattle.node_run.specs.declared.serving.ServeFault.{ServeFault}
use Rattle.node_run.specs.declared.serving.ServeFault.TheVariants.{Link as of_link}
use Rattle.node_run.specs.declared.serving.Served.{Served}
use Rattle.node_run.proofs.Told.{since_next, since_none, since_same}
use Rattle.node_run.proofs.Turning.{takes_on, ticks_on}
use Rattle.node_run.proofs.Steps.{done_more, leaves_either, opens_either, passes}

-- what follows from a clause of a result
pub on_ok : {A E : Type 0} {P Q : Type 0} (r : Result A E) → OnOk r P → (P → Q) → OnOk r Q
on_ok (Ok x) p f = f p
on_ok (Err e) p f = tt

pub if_err : {A E : Type 0} {P Q : E → Type 0} (r : Result A E) → IfErr r P → ((e : E) → P e → Q e) → IfErr r Q
if_err (Ok x) p f = tt
if_err (Err e) p f = f e p

module _ {C : Type 0} (step : Steps C) (bound : ℕ) where
  -- ---- the beginning

  none_done : (s : Standing C) (served : Served) → served.sent ≡ 0 → served.failed ≡ 0 → served.dropped ≡ 0
      → HasDone bound s.sent s.sent s.state s.state (begun s.state.core) served
  none_done s served sent failed dropped = record {
    core = refl;
    lost = 0;
    few = omega arith;
    handed = handed_none s.sent;
    opens = λ bs opens. subst (λ (l : List (List ℕ)). OpensTo bound s.state.file l) (sym (append-nil bs)) opens;
    end = refl;
    sent = sent;
    failed = failed;
    dropped = dropped;
  }

  none_reached : (start : C) → Reaches step start [] [] (begun start)
  none_reached start = record { each = λ more. refl }

  pub goes_none : (s : Standing C) (served : Served) (timing : Timing) → timing ≡ record { time = 0; tick = None }
      → served.sent ≡ 0 → served.failed ≡ 0 → served.dropped ≡ 0 → Going step bound s s timing served
  goes_none s served timing time sent failed dropped =
      since_none s.times _
      (since_none s.answers _
      (record {
        run = record {
          course = begun s.state.core;
          reached = none_reached s.state.core;
          done = none_done s served sent failed dropped;
        };
        time = time;
      }))

  -- before the first turn
  pub stops_first : (s : Standing C) (e : ServeFault) → PassesBound bound s.state.length [] [] e → Stops step bound s s e
  stops_first s e full =
      since_none s.times _
      (since_none s.answers _
      (record {
        before = begun s.state.core;
        after = begun s.state.core;
        front = record {
          front_times = [];
          last_time = [];
          front_answers = [];
          last_answer = [];
          split_times = refl;
          split_answers = refl;
          one_time = omega arith;
          one_answer = omega arith;
          reached = none_reached s.state.core;
        };
        whole = none_reached s.state.core;
        lost = 0;
        handed = handed_none s.sent;
        leaves = λ bs opens. subst (λ (l : List (List ℕ)). LeavesEither bound s.state.file l l) (sym (append-nil bs))
            (opens_either bound s.state.file bs opens);
        full = full;
      }))

  -- ---- turn after turn

  module _ (old mid new : Standing C) (timing t : Timing) (served more : Served) (b : ℕ) (same : b ≡ bound)
      (going : Going step bound old mid timing served) where
    pub then_goes : GoesOn step b mid timing served new t more → Going step bound old new t more
    then_goes goes = subst (λ (x : ℕ). GoesOn step x mid timing served new t more) same goes old going

    pub then_stops : (e : ServeFault) → StopsAt step b mid timing served new e → Stops step bound old new e
    then_stops e stops = subst (λ (x : ℕ). StopsAt step x mid timing served new e) same stops old going

  pub serves_all : (old new : Standing C) (timing : Timing) (served : Served) → Going step bound old new timing served
      → Serves step bound old new served
  serves_all old new timing served going =
      since_same old.times new.times
      (λ times. Since old.answers new.answers (GoesTo step bound old new timing served times))
      (λ times. Since old.answers new.answers (Follows step bound old new served times))
      (λ times inner. since_same old.answers new.answers (GoesTo step bound old new timing served times)
      (Follows step bound old new served times) (λ answers g. g.run) inner)
      going

  -- ---- a turn at a time

  module _ (mid new : Standing C) (timing t : Timing) (time : ℕ) (served more : Served)
      (tells : Tells mid.times new.times time) where
    -- both lists go on
    on_time : (old : Standing C) (P Q : List ℕ → List Answer → Type 0)
        → ((times : List ℕ) → Since old.answers mid.answers (P times) → Since old.answers new.answers (Q (times ++ time ∷ [])))
        → Since old.times mid.times (λ times. Since old.answers mid.answers (P times))
        → Since old.times new.times (λ times. Since old.answers new.answers (Q times))
    on_time old P Q f going =
        since_next old.times mid.times new.times time
        (λ times. Since old.answers mid.answers (P times))
        (λ times. Since old.answers new.answers (Q times)) f going tells

    on_same : (old : Standing C) (P Q : List Answer → Type 0) → new.answers ≡ mid.answers
        → ((answers : List Answer) → P answers → Q answers)
        → Since old.answers mid.answers P → Since old.answers new.answers Q
    on_same old P Q same f going =
        subst (λ (a : Option (List Answer)). Since old.answers a Q) (sym same)
        (since_same old.answers mid.answers P Q f going)

    -- what a step more leads to
    run_more : (input : Input) (old : Standing C) (times : List ℕ) (answers later : List Answer)
        → (g : GoesTo step bound old mid timing served times answers)
        → Reaches step old.state.core (times ++ time ∷ []) later (handled step input (at t g.run.course))
        → Handled bound (step mid.state.core input) mid.sent new.sent mid.state new.state served more
        → GoesTo step bound old new t more (times ++ time ∷ []) later
    run_more input old times answers later g reached is = record {
      run = record {
        course = handled step input (at t g.run.course);
        reached = reached;
        done = done_more bound old.sent mid.sent new.sent old.state mid.state new.state g.run.course served more t
            (step g.run.course.core input) g.run.done
            (subst (λ (core : C). Handled bound (step core input) mid.sent new.sent mid.state new.state served more)
            g.run.done.core is);
      };
      time = refl;
    }

    pub tick_goes : (tick : ℕ) → tick ≡ t.time → timed timing time ≡ (t, true) → new.answers ≡ mid.answers
        → Handled bound (step mid.state.core (Ticked tick)) mid.sent new.sent mid.state new.state served more
        → GoesOn step bound mid timing served new t more
    tick_goes tick tick_is due same is = λ old going.
        on_time old (GoesTo step bound old mid timing served) (GoesTo step bound old new t more)
        (λ times inner. on_same old (GoesTo step bound old mid timing served times)
        (GoesTo step bound old new t more (times ++ time ∷ [])) same
        (λ answers g. run_more (Ticked t.time) old times answers answers g
        (ticks_on step old.state.core times answers g.run.course time t g.run.reached
        (subst (λ (x : Timing). timed x time ≡ (t, true)) g.time due))
        (subst (λ (n : ℕ). Handled bound (step mid.state.core (Ticked n)) mid.sent new.sent mid.state new.state served
        more) tick_is is))
        inner)
        going

    pub answer_goes : (r : Received) (arrived : Option (List Answer)) (between : Option (List Sent))
        → timed timing time ≡ (t, false) → Tells mid.answers arrived (Ok (Some r)) → between ≡ mid.sent
        → new.answers ≡ arrived
        → Handled bound (step mid.state.core (Arrived r.from r.bytes)) between new.sent mid.state new.state served more
        → GoesOn step bound mid timing served new t more
    answer_goes r arrived between due come same_sent same is_then = λ old going.
        let came = subst (λ (x : Option (List Answer)). Tells mid.answers x (Ok (Some r))) (sym same) come in
        let is = subst (λ (x : Option (List Sent)). Handled bound (step mid.state.core (Arrived r.from r.bytes)) x new.sent
        mid.state new.state served more) same_sent is_then in
        on_time old (GoesTo step bound old mid timing served) (GoesTo step bound old new t more)
        (λ times inner. since_next old.answers mid.answers new.answers (Ok (Some r))
        (GoesTo step bound old mid timing served times) (GoesTo step bound old new t more (times ++ time ∷ []))
        (λ answers g. run_more (Arrived r.from r.bytes) old times answers (answers ++ Ok (Some r) ∷ []) g
        (takes_on step old.state.core times answers g.run.course time t g.run.reached (Ok (Some r))
        (subst (λ (x : Timing). timed x time ≡ (t, false)) g.time due))
        is)
        inner came)
        going

    pub idle_goes : timed timing time ≡ (t, false) → Tells mid.answers new.answers (Ok None) → new.sent ≡ mid.sent
        → new.state ≡ mid.state → GoesOn step bound mid timing served new t served
    idle_goes due came sent state = λ old going.
        on_time old (GoesTo step bound old mid timing served) (GoesTo step bound old new t served)
        (λ times inner. since_next old.answers mid.answers new.answers (Ok None)
        (GoesTo step bound old mid timing served times) (GoesTo step bound old new t served (times ++ time ∷ []))
        (λ answers g. record {
          run = record {
            course = at t g.run.course;
            reached = takes_on step old.state.core times answers g.run.course time t g.run.reached (Ok None)
                (subst (λ (x : Timing). timed x time ≡ (t, false)) g.time due);
            done = subst (λ (x : Option (List Sent)). HasDone bound old.sent x old.state new.state (at t g.run.course) served)
                (sym sent)
                (subst (λ (x : State C). HasDone bound old.sent mid.sent old.state x (at t g.run.course) served) (sym state)
                (same_done old.sent mid.sent old.state mid.state g.run.course g.run.done));
          };
          time = refl;
        })
        inner came)
        going
      where
        same_done : (before after : Option (List Sent)) (old last : State C) (c : Course C)
            → HasDone bound before after old last c served → HasDone bound before after old last (at t c) served
        same_done before after old last c d = record {
          core = d.core;
          lost = d.lost;
          few = d.few;
          handed = d.handed;
          opens = d.opens;
          end = d.end;
          sent = d.sent;
          failed = d.failed;
          dropped = d.dropped;
        }

    -- ---- a turn that fails

    front_of : (old : Standing C) (times : List ℕ) (answers last : List Answer) (c : Course C) → length last ≤ 1
        → Reaches step old.state.core times answers c
        → ReachesFront step old.state.core (times ++ time ∷ []) (answers ++ last) c
    front_of old times answers last c one reached = record {
      front_times = times;
      last_time = time ∷ [];
      front_answers = answers;
      last_answer = last;
      split_times = refl;
      split_answers = refl;
      one_time = omega arith;
      one_answer = one;
      reached = reached;
    }

    stop_in : (input : Input) (e : ServeFault) (old : Standing C) (times : List ℕ) (answers last : List Answer)
        → (g : GoesTo step bound old mid timing served times answers) → length last ≤ 1
        → Reaches step old.state.core (times ++ time ∷ []) (answers ++ last) (handled step input (at t g.run.course))
        → NotHandled bound (step mid.state.core input) mid.sent new.sent mid.state new.state e
        → StopsIn step bound old new e (times ++ time ∷ []) (answers ++ last)
    stop_in input e old times answers last g one reached isnt =
        let not_done = subst (λ (core : C). NotHandled bound (step core input) mid.sent new.sent mid.state new.state e)
        g.run.done.core isnt in
        record {
          before = g.run.course;
          after = handled step input (at t g.run.course);
          front = front_of old times answers last g.run.course one g.run.reached;
          whole = reached;
          lost = g.run.done.lost;
          handed = subst (λ (x : Option (List Sent)). Handed old.sent x g.run.course.sends g.run.done.lost)
              (sym not_done.silent) g.run.done.handed;
          leaves = λ bs opens. subst (λ (l : List (List ℕ)). LeavesEither bound new.state.file (bs ++ g.run.course.entries) l)
              (append_assoc bs g.run.course.entries (entry_list (step g.run.course.core input).1.entry))
              (leaves_either bound (step g.run.course.core input).1.entry mid.state.file new.state.file
              (bs ++ g.run.course.entries) (g.run.done.opens bs opens) not_done.moments);
          full = passes bound old.state.length mid.state.length not_done.faults not_done.faults_now g.run.course.entries
              (step g.run.course.core input).1.entry e g.run.done.end not_done.fails;
        }

    pub tick_stops : (tick : ℕ) (e : ServeFault) → tick ≡ t.time → timed timing time ≡ (t, true)
        → new.answers ≡ mid.answers
        → NotHandled bound (step mid.state.core (Ticked tick)) mid.sent new.sent mid.state new.state e
        → StopsAt step bound mid timing served new e
    tick_stops tick e tick_is due same isnt = λ old going.
        on_time old (GoesTo step bound old mid timing served) (StopsIn step bound old new e)
        (λ times inner. on_same old (GoesTo step bound old mid timing served times)
        (StopsIn step bound old new e (times ++ time ∷ [])) same
        (λ answers g. subst (λ (l : List Answer). StopsIn step bound old new e (times ++ time ∷ []) l) (append-nil answers)
        (stop_in (Ticked t.time) e old times answers [] g (omega arith)
        (subst (λ (l : List Answer). Reaches step old.state.core (times ++ time ∷ []) l
        (handled step (Ticked t.time) (at t g.run.course))) (sym (append-nil answers))
        (ticks_on step old.state.core times answers g.run.course time t g.run.reached
        (subst (λ (x : Timing). timed x time ≡ (t, true)) g.time due)))
        (subst (λ (n : ℕ). NotHandled bound (step mid.state.core (Ticked n)) mid.sent new.sent mid.state new.state e)
        tick_is isnt)))
        inner)
        going

    pub answer_stops : (e : ServeFault) (r : Received) (arrived : Option (List Answer)) (between : Option (List Sent))
        → timed timing time ≡ (t, false) → Tells mid.answers arrived (Ok (Some r)) → between ≡ mid.sent
        → new.answers ≡ arrived
        → NotHandled bound (step mid.state.core (Arrived r.from r.bytes)) between new.sent mid.state new.state e
        → StopsAt step bound mid timing served new e
    answer_stops e r arrived between due come same_sent same isnt_then = λ old going.
        let came = subst (λ (x : Option (List Answer)). Tells mid.answers x (Ok (Some r))) (sym same) come in
        let isnt = subst (λ (x : Option (List Sent)). NotHandled bound (step mid.state.core (Arrived r.from r.bytes)) x
        new.sent mid.state new.state e) same_sent isnt_then in
        on_time old (GoesTo step bound old mid timing served) (StopsIn step bound old new e)
        (λ times inner. since_next old.answers mid.answers new.answers (Ok (Some r))
        (GoesTo step bound old mid timing served times) (StopsIn step bound old new e (times ++ time ∷ []))
        (λ answers g. stop_in (Arrived r.from r.bytes) e old times answers (Ok (Some r) ∷ []) g (omega arith)
        (takes_on step old.state.core times answers g.run.course time t g.run.reached (Ok (Some r))
        (subst (λ (x : Timing). timed x time ≡ (t, false)) g.time due))
        isnt)
        inner came)
        going

    pub link_stops : (failed : Failed) → timed timing time ≡ (t, false) → Tells mid.answers new.answers (Err failed)
        → new.sent ≡ mid.sent → new.state ≡ mid.state → StopsAt step bound mid timing served new of_link
    link_stops failed due came sent state = λ old going.
        on_time old (GoesTo step bound old mid timing served) (StopsIn step bound old new of_link)
        (λ times inner. since_next old.answers mid.answers new.answers (Err failed)
        (GoesTo step bound old mid timing served times) (StopsIn step bound old new of_link (times ++ time ∷ []))
        (λ answers g. record {
          before = g.run.course;
          after = at t g.run.course;
          front = front_of old times answers (Err failed ∷ []) g.run.course (omega arith) g.run.reached;
          whole = takes_on step old.state.core times answers g.run.course time t g.run.reached (Err failed)
              (subst (λ (x : Timing). timed x time ≡ (t, false)) g.time due);
          lost = g.run.done.lost;
          handed = subst (λ (x : Option (List Sent)). Handed old.sent x g.run.course.sends g.run.done.lost)
              (sym sent) g.run.done.handed;
          leaves = λ bs opens. subst (λ (x : State C). LeavesEither bound x.file (bs ++ g.run.course.entries)
              (bs ++ g.run.course.entries)) (sym state)
              (opens_either bound mid.state.file (bs ++ g.run.course.entries) (g.run.done.opens bs opens));
          full = tt;
        })
        inner came)
        going
