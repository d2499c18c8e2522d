use Rattle.std.proofs.Common.{ℕ, ◌+◌, ◌*◌, inl, inr, refl, sym, subst, arith}
use Rattle.pl_io.specs.Told.{HasRoom}
use Rattle.pl_cli.specs.Serving.{Lines, Session}
use Rattle.pl_cli.proofs.Headline.{came, clean_by, complete_by, cut_short_by, exact_by, no_capture_by, no_profile_by, of_command, part_by, refused_by, refused_cut_by, refused_part_by, shelf_sure_by, sink_room_by}
use Rattle.pl_cli.proofs.ServeWords.{both_more, no_serve_status, serve-filter, serve-trial, serve-turns, serve-view, serve_most, serve_status, serve_status_12, status_most, unopened_more}
use Rattle.pl_cli.proofs.Statuses.{both_opened_by, filter_by, filter_only_by, filter_opened_by, filter_part_by, filter_room_by, no_memory_by, none_opened_by, one_opened_by, read_fault_by, shelf_kept_by, sink_kept_by, status_by, unopened_by, usage_by, usage_only_by, usage_room_by, write_fault_by}
use Rattle.pl_cli.proofs.Trials.{trial_by, trial_clean, trial_complete, trial_room}
use Rattle.pl_cli.proofs.command_line.run.Goals as goal

-- ---- the archive

pub returns-in-Some-clause-runs : goal.returns-in-Some-clause-runs
returns-in-Some-clause-runs g c = λ other. absurd (other (_, c.in-Some.ensures))

pub returns-in-Some-clause-exact : goal.returns-in-Some-clause-exact
returns-in-Some-clause-exact g c = λ v p b h fine. absurd (serve-view c.in-Some.ensures v h.profile_name h.capture_name h.command)

pub returns-in-Some-clause-refused : goal.returns-in-Some-clause-refused
returns-in-Some-clause-refused g c = λ v profile capture is told e source fine. absurd (serve-view c.in-Some.ensures v profile capture is)

pub returns-in-Some-clause-filter_line : goal.returns-in-Some-clause-filter_line
returns-in-Some-clause-filter_line g c = λ e h n8 n9. absurd (serve-filter c.in-Some.ensures h.0 h.1)

pub returns-in-Some-clause-trial : goal.returns-in-Some-clause-trial
returns-in-Some-clause-trial g c = λ n k is. absurd (serve-trial c.in-Some.ensures n k is)

pub returns-in-Some-clause-usage : goal.returns-in-Some-clause-usage
returns-in-Some-clause-usage g c = λ h. absurd (h.no_serve (_, c.in-Some.ensures))

pub returns-in-Some-clause-clean : goal.returns-in-Some-clause-clean
returns-in-Some-clause-clean g c = λ v p b h is0. absurd (serve-view c.in-Some.ensures v h.profile_name h.capture_name h.command)

pub returns-in-Some-clause-trial_clean : goal.returns-in-Some-clause-trial_clean
returns-in-Some-clause-trial_clean g c = λ n k is is0. absurd (serve-trial c.in-Some.ensures n k is)

pub returns-in-Some-clause-read_fault : goal.returns-in-Some-clause-read_fault
returns-in-Some-clause-read_fault g c = λ is7. absurd (serve_status 7 _ c.serve.ensures.status is7 (inr refl))

pub returns-in-Some-clause-cut_short : goal.returns-in-Some-clause-cut_short
returns-in-Some-clause-cut_short g c = λ v p b h is7. absurd (serve-view c.in-Some.ensures v h.profile_name h.capture_name h.command)

pub returns-in-Some-clause-no_profile : goal.returns-in-Some-clause-no_profile
returns-in-Some-clause-no_profile g c = λ v profile capture is told source read. absurd (serve-view c.in-Some.ensures v profile capture is)

pub returns-in-Some-clause-no_capture : goal.returns-in-Some-clause-no_capture
returns-in-Some-clause-no_capture g c = λ v profile capture is told p source none n9. absurd (serve-view c.in-Some.ensures v profile capture is)

pub returns-in-Some-clause-refused_cut : goal.returns-in-Some-clause-refused_cut
returns-in-Some-clause-refused_cut g c = λ v profile capture is told e source is7. absurd (serve-view c.in-Some.ensures v profile capture is)

pub returns-in-Some-clause-write_fault : goal.returns-in-Some-clause-write_fault
returns-in-Some-clause-write_fault g c = c.serve.ensures.unwritten

pub returns-in-Some-clause-part : goal.returns-in-Some-clause-part
returns-in-Some-clause-part g c = λ v p b h is8. absurd (serve-view c.in-Some.ensures v h.profile_name h.capture_name h.command)

pub returns-in-Some-clause-refused_part : goal.returns-in-Some-clause-refused_part
returns-in-Some-clause-refused_part g c = λ v profile capture is told e source is8. absurd (serve-view c.in-Some.ensures v profile capture is)

pub returns-in-Some-clause-filter_part : goal.returns-in-Some-clause-filter_part
returns-in-Some-clause-filter_part g c = λ e h is8. absurd (serve-filter c.in-Some.ensures h.0 h.1)

pub returns-in-Some-clause-sink_kept : goal.returns-in-Some-clause-sink_kept
returns-in-Some-clause-sink_kept g c = c.serve.ensures.sink_kept

pub returns-in-Some-clause-unopened : goal.returns-in-Some-clause-unopened
returns-in-Some-clause-unopened g c = λ is9. inr (inr (inr ((_, c.in-Some.ensures), refl)))

pub returns-in-Some-clause-no_memory : goal.returns-in-Some-clause-no_memory
returns-in-Some-clause-no_memory g c = λ is9. (c.serve.ensures.no_memory is9).0

pub returns-in-Some-clause-none_opened : goal.returns-in-Some-clause-none_opened
returns-in-Some-clause-none_opened g c = λ h. refl

pub returns-in-Some-clause-filter_first : goal.returns-in-Some-clause-filter_first
returns-in-Some-clause-filter_first g c = λ e h. refl

pub returns-in-Some-clause-one_opened : goal.returns-in-Some-clause-one_opened
returns-in-Some-clause-one_opened g c = λ is3. absurd (serve_status 3 _ c.serve.ensures.status is3 (inl (omega arith, omega arith)))

pub returns-in-Some-clause-both_opened : goal.returns-in-Some-clause-both_opened
returns-in-Some-clause-both_opened g c = λ is. inl (inr (_, c.in-Some.ensures))

pub returns-in-Some-clause-status : goal.returns-in-Some-clause-status
returns-in-Some-clause-status g c = serve_most _ c.serve.ensures.status

pub returns-in-Some-clause-usage_only : goal.returns-in-Some-clause-usage_only
returns-in-Some-clause-usage_only g c = λ is2. absurd (serve_status 2 _ c.serve.ensures.status is2 (inl (omega arith, omega arith)))

pub returns-in-Some-clause-filter_only : goal.returns-in-Some-clause-filter_only
returns-in-Some-clause-filter_only g c = λ is12. absurd (serve_status_12 _ c.serve.ensures.status is12)

pub returns-in-Some-clause-complete : goal.returns-in-Some-clause-complete
returns-in-Some-clause-complete g c = λ v p b h shelf_is out_is. absurd (serve-view c.in-Some.ensures v h.profile_name h.capture_name h.command)

pub returns-in-Some-clause-trial_complete : goal.returns-in-Some-clause-trial_complete
returns-in-Some-clause-trial_complete g c = λ n k is unrisen. absurd (serve-trial c.in-Some.ensures n k is)

pub returns-in-Some-clause-shelf_sure : goal.returns-in-Some-clause-shelf_sure
returns-in-Some-clause-shelf_sure g c = λ sure v profile capture is there. refl

pub returns-in-Some-clause-sink_room : goal.returns-in-Some-clause-sink_room
returns-in-Some-clause-sink_room g c = λ sure v profile capture is room. absurd (serve-view c.in-Some.ensures v profile capture is)

pub returns-in-Some-clause-filter_room : goal.returns-in-Some-clause-filter_room
returns-in-Some-clause-filter_room g c = λ e h room. absurd (serve-filter c.in-Some.ensures h.0 h.1)

pub returns-in-Some-clause-trial_room : goal.returns-in-Some-clause-trial_room
returns-in-Some-clause-trial_room g c = λ n k is room. absurd (serve-trial c.in-Some.ensures n k is)

pub returns-in-Some-clause-usage_room : goal.returns-in-Some-clause-usage_room
returns-in-Some-clause-usage_room g c = λ h room. absurd (h.no_serve (_, c.in-Some.ensures))

pub returns-in-Some-clause-session : goal.returns-in-Some-clause-session
returns-in-Some-clause-session g c = λ turns is links told n8 n9.
    subst (λ (n : ℕ). Session links n (g.K.Keeper.lives c.serve.new.keeper)
    (g.K.Keeper.tells c.args.keeper.now) (g.K.Keeper.tells c.serve.new.keeper)
    (g.K.Keeper.faults c.args.keeper.now) (g.K.Keeper.faults c.serve.new.keeper)
    (g.D.Door.replies c.args.door.now) (g.D.Door.replies c.serve.new.door)
    (g.O.Sink.written c.args.out.now) (g.O.Sink.written c.serve.new.out)
    (g.D.Door.faults c.args.door.now) (g.D.Door.faults c.serve.new.door) c.serve.result)
    (serve-turns c.in-Some.ensures turns is) (c.serve.ensures.session links told n8 n9)

pub returns-in-Some-clause-lines : goal.returns-in-Some-clause-lines
returns-in-Some-clause-lines g c = λ turns is n8 n9.
    subst (λ (n : ℕ). Lines n (g.K.Keeper.faults c.args.keeper.now)
    (g.K.Keeper.faults c.serve.new.keeper) (g.O.Sink.written c.args.out.now)
    (g.O.Sink.written c.serve.new.out) c.serve.result)
    (serve-turns c.in-Some.ensures turns is) (c.serve.ensures.lines n8 n9)

pub returns-in-Some-clause-no_routes : goal.returns-in-Some-clause-no_routes
returns-in-Some-clause-no_routes g c = λ is is9. ((c.serve.ensures.no_memory is9).1, (c.serve.ensures.no_memory is9).2)

pub returns-in-Some-clause-serve_clean : goal.returns-in-Some-clause-serve_clean
returns-in-Some-clause-serve_clean g c = λ is is0. c.serve.ensures.clean is0

pub returns-in-Some-clause-serve_room : goal.returns-in-Some-clause-serve_room
returns-in-Some-clause-serve_room g c = λ turns is room. c.serve.ensures.room (subst (λ (n : ℕ). HasRoom (g.O.Sink.room c.args.out.now) (11 * n + 12)) (sym (serve-turns c.in-Some.ensures turns is)) room)

pub returns-in-Some-clause-door_fault : goal.returns-in-Some-clause-door_fault
returns-in-Some-clause-door_fault g c = c.serve.ensures.door_fault

pub returns-in-Some-clause-store_fault : goal.returns-in-Some-clause-store_fault
returns-in-Some-clause-store_fault g c = c.serve.ensures.store_fault

pub returns-in-Some-clause-serve_sure : goal.returns-in-Some-clause-serve_sure
returns-in-Some-clause-serve_sure g c = c.serve.ensures.sure

-- ---- the commands that judge a capture

pub returns-in-None-clause-exact : goal.returns-in-None-clause-exact
returns-in-None-clause-exact g c = λ v p b h fine. exact_by (came p b (of_command v h.profile_name h.capture_name h.command c.run_words.ensures.runs) h.told h.profile_is h.capture_is) fine.0 fine.1 fine.2

pub returns-in-None-clause-refused : goal.returns-in-None-clause-refused
returns-in-None-clause-refused g c = λ v profile capture is told e source fine. refused_by e (of_command v profile capture is c.run_words.ensures.runs) told source fine.0 fine.1 fine.2

pub returns-in-None-clause-filter_line : goal.returns-in-None-clause-filter_line
returns-in-None-clause-filter_line g c = λ e h n8 n9. filter_by e c.run_words.ensures.runs h n8 n9

pub returns-in-None-clause-usage : goal.returns-in-None-clause-usage
returns-in-None-clause-usage g c = λ h. usage_by c.run_words.ensures.runs h.no_judging

pub returns-in-None-clause-clean : goal.returns-in-None-clause-clean
returns-in-None-clause-clean g c = λ v p b h is0. clean_by (came p b (of_command v h.profile_name h.capture_name h.command c.run_words.ensures.runs) h.told h.profile_is h.capture_is) is0

pub returns-in-None-clause-read_fault : goal.returns-in-None-clause-read_fault
returns-in-None-clause-read_fault g c = read_fault_by c.run_words.ensures.runs

pub returns-in-None-clause-cut_short : goal.returns-in-None-clause-cut_short
returns-in-None-clause-cut_short g c = λ v p b h is7. cut_short_by (came p b (of_command v h.profile_name h.capture_name h.command c.run_words.ensures.runs) h.told h.profile_is h.capture_is) is7

pub returns-in-None-clause-no_profile : goal.returns-in-None-clause-no_profile
returns-in-None-clause-no_profile g c = λ v profile capture is told source read. no_profile_by (of_command v profile capture is c.run_words.ensures.runs) told source read

pub returns-in-None-clause-no_capture : goal.returns-in-None-clause-no_capture
returns-in-None-clause-no_capture g c = λ v profile capture is told p source none n9. no_capture_by p (of_command v profile capture is c.run_words.ensures.runs) told source none n9

pub returns-in-None-clause-refused_cut : goal.returns-in-None-clause-refused_cut
returns-in-None-clause-refused_cut g c = λ v profile capture is told e source is7. refused_cut_by e (of_command v profile capture is c.run_words.ensures.runs) told source is7

pub returns-in-None-clause-write_fault : goal.returns-in-None-clause-write_fault
returns-in-None-clause-write_fault g c = write_fault_by c.run_words.ensures.runs

pub returns-in-None-clause-part : goal.returns-in-None-clause-part
returns-in-None-clause-part g c = λ v p b h is8. part_by (came p b (of_command v h.profile_name h.capture_name h.command c.run_words.ensures.runs) h.told h.profile_is h.capture_is) is8

pub returns-in-None-clause-refused_part : goal.returns-in-None-clause-refused_part
returns-in-None-clause-refused_part g c = λ v profile capture is told e source is8. refused_part_by e (of_command v profile capture is c.run_words.ensures.runs) told source is8

pub returns-in-None-clause-filter_part : goal.returns-in-None-clause-filter_part
returns-in-None-clause-filter_part g c = λ e h is8. filter_part_by e c.run_words.ensures.runs h is8

pub returns-in-None-clause-shelf_kept : goal.returns-in-None-clause-shelf_kept
returns-in-None-clause-shelf_kept g c = shelf_kept_by c.run_words.ensures.runs

pub returns-in-None-clause-sink_kept : goal.returns-in-None-clause-sink_kept
returns-in-None-clause-sink_kept g c = sink_kept_by c.run_words.ensures.runs

pub returns-in-None-clause-unopened : goal.returns-in-None-clause-unopened
returns-in-None-clause-unopened g c = λ is9. unopened_more (unopened_by c.run_words.ensures.runs is9)

pub returns-in-None-clause-no_memory : goal.returns-in-None-clause-no_memory
returns-in-None-clause-no_memory g c = no_memory_by c.run_words.ensures.runs

pub returns-in-None-clause-none_opened : goal.returns-in-None-clause-none_opened
returns-in-None-clause-none_opened g c = λ h. none_opened_by c.run_words.ensures.runs h.no_judging

pub returns-in-None-clause-filter_first : goal.returns-in-None-clause-filter_first
returns-in-None-clause-filter_first g c = λ e h. filter_opened_by e c.run_words.ensures.runs h

pub returns-in-None-clause-one_opened : goal.returns-in-None-clause-one_opened
returns-in-None-clause-one_opened g c = one_opened_by c.run_words.ensures.runs

pub returns-in-None-clause-both_opened : goal.returns-in-None-clause-both_opened
returns-in-None-clause-both_opened g c = λ is. both_more (both_opened_by c.run_words.ensures.runs is)

pub returns-in-None-clause-status : goal.returns-in-None-clause-status
returns-in-None-clause-status g c = status_most (status_by c.run_words.ensures.runs)

pub returns-in-None-clause-usage_only : goal.returns-in-None-clause-usage_only
returns-in-None-clause-usage_only g c = λ is2. record { no_judging = usage_only_by c.run_words.ensures.runs is2; no_serve = λ s. (c.in-None.ensures s.0 s.1) }

pub returns-in-None-clause-filter_only : goal.returns-in-None-clause-filter_only
returns-in-None-clause-filter_only g c = filter_only_by c.run_words.ensures.runs

pub returns-in-None-clause-complete : goal.returns-in-None-clause-complete
returns-in-None-clause-complete g c = λ v p b h shelf_is out_is. complete_by (came p b (of_command v h.profile_name h.capture_name h.command c.run_words.ensures.runs) h.told h.profile_is h.capture_is) shelf_is out_is

pub returns-in-None-clause-shelf_sure : goal.returns-in-None-clause-shelf_sure
returns-in-None-clause-shelf_sure g c = λ sure v profile capture is there. shelf_sure_by (of_command v profile capture is c.run_words.ensures.runs) (g.met.H.Shelf.sure_is_told _ sure) sure there

pub returns-in-None-clause-sink_room : goal.returns-in-None-clause-sink_room
returns-in-None-clause-sink_room g c = λ sure v profile capture is room. sink_room_by (of_command v profile capture is c.run_words.ensures.runs) (g.met.H.Shelf.sure_is_told _ sure) sure room

pub returns-in-None-clause-filter_room : goal.returns-in-None-clause-filter_room
returns-in-None-clause-filter_room g c = λ e h room. filter_room_by e c.run_words.ensures.runs h room

pub returns-in-None-clause-usage_room : goal.returns-in-None-clause-usage_room
returns-in-None-clause-usage_room g c = λ h room. usage_room_by c.run_words.ensures.runs h.no_judging room

pub returns-in-None-clause-trial : goal.returns-in-None-clause-trial
returns-in-None-clause-trial g c = λ n k is. (trial_by n k c.run_words.ensures.runs is).1

pub returns-in-None-clause-trial_clean : goal.returns-in-None-clause-trial_clean
returns-in-None-clause-trial_clean g c = λ n k is is0. trial_clean (trial_by n k c.run_words.ensures.runs is).1 is0

pub returns-in-None-clause-trial_alone : goal.returns-in-None-clause-trial_alone
returns-in-None-clause-trial_alone g c = λ is. (trial_by is.0 is.1 c.run_words.ensures.runs is.2).0

pub returns-in-None-clause-trial_complete : goal.returns-in-None-clause-trial_complete
returns-in-None-clause-trial_complete g c = λ n k is unrisen. trial_complete (trial_by n k c.run_words.ensures.runs is).1 unrisen

pub returns-in-None-clause-trial_room : goal.returns-in-None-clause-trial_room
returns-in-None-clause-trial_room g c = λ n k is room. trial_room (trial_by n k c.run_words.ensures.runs is).1 room

pub returns-in-None-clause-runs : goal.returns-in-None-clause-runs
returns-in-None-clause-runs g c = λ other. c.run_words.ensures.runs

pub returns-in-None-clause-session : goal.returns-in-None-clause-session
returns-in-None-clause-session g c = λ turns is links told n8 n9. absurd (c.in-None.ensures turns is)

pub returns-in-None-clause-lines : goal.returns-in-None-clause-lines
returns-in-None-clause-lines g c = λ turns is n8 n9. absurd (c.in-None.ensures turns is)

pub returns-in-None-clause-serve_alone : goal.returns-in-None-clause-serve_alone
returns-in-None-clause-serve_alone g c = λ is. absurd (c.in-None.ensures is.0 is.1)

pub returns-in-None-clause-no_routes : goal.returns-in-None-clause-no_routes
returns-in-None-clause-no_routes g c = λ is is9. absurd (c.in-None.ensures is.0 is.1)

pub returns-in-None-clause-serve_clean : goal.returns-in-None-clause-serve_clean
returns-in-None-clause-serve_clean g c = λ is is0. absurd (c.in-None.ensures is.0 is.1)

pub returns-in-None-clause-serve_room : goal.returns-in-None-clause-serve_room
returns-in-None-clause-serve_room g c = λ turns is room. absurd (c.in-None.ensures turns is)

pub returns-in-None-clause-door_fault : goal.returns-in-None-clause-door_fault
returns-in-None-clause-door_fault g c = λ is11. absurd (no_serve_status _ (status_by c.run_words.ensures.runs) (inr is11))

pub returns-in-None-clause-store_fault : goal.returns-in-None-clause-store_fault
returns-in-None-clause-store_fault g c = λ is10. absurd (no_serve_status _ (status_by c.run_words.ensures.runs) (inl is10))

pub returns-in-None-clause-serve_sure : goal.returns-in-None-clause-serve_sure
returns-in-None-clause-serve_sure g c = λ sure is10. no_serve_status _ (status_by c.run_words.ensures.runs) (inl is10)
