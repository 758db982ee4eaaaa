-- The work on one group as a whole: loaded, the part that finishes, and what is laid over. Assumes nothing.
use mathlib.Core.List.{List}
use Rattle.std.specs.Prelude.{Option, None}
use mathlib.Core.Path.{◌≡◌, sym, ap, ◌∙◌}
use Prim.Native.Nat.{ℕ, ◌-◌}
use lib.ListN.{length, take, drop}
use borrow.Author.Rules.{part_to_end}
use borrow.Rule.Slice.PartMut.{put_mid}
use Rattle.maps.specs.Maps.{lookup, numbers}
use Rattle.rules.specs.Causes.{Cause, ByCause, Result, Ok, Err, and_then}
use Rattle.rules.specs.Table.{Table}
use Rattle.rules.specs.Context.{Context}
use Rattle.rules_by_group.specs.Group.{finish_table, tombed}
use Rattle.rules_by_group.proofs.ResultLaws.{and_then_of, and_then-refused}
use Rattle.rules_by_group.specs.Kept.{Within}
use Rattle.groups.specs.Area.{groups_of}
use Rattle.contexts.specs.Contexts.{context_of}
use Rattle.contexts.specs.AreaLaws.{formed_of, area-length, area-bytes}
use Rattle.worktable.specs.declared.Mode.{Mode}
use Rattle.worktable.specs.Work.{work_in}
use Rattle.worktable.specs.Calls.{Ends, OlderFor}
use Rattle.staging.specs.Staging.{long_numbers, long_bytes, Working}
use Rattle.staging.specs.StagingLaws.{working-then, working-beside}
use Rattle.staging.specs.Modes.{group_by, Given}
use Rattle.staging.specs.ModeLaws.{beside-context, beside_wf}
use Rattle.staging.specs.Works.{laid_by, Loaded, WorkedAs}
use Rattle.staging.specs.WorkLaws.{group-is, finishes-in, older-of}
use Rattle.staging.specs.Finishings.{finished_at, PartsGiven}
use Rattle.staging.proofs.WorkWays.{long_back, lent-working, lent_back, context-groups}
use Rattle.staging.proofs.FinishingWays.{after-room, after-rewrite}

module _ (m : Mode) (g : ℕ) (xs bs ys cs : List ℕ) (given : Given m xs bs ys cs) (xs₁ bs₁ : List ℕ) (l : Loaded (lookup numbers g (groups_of xs bs)) xs bs xs₁ bs₁) where
  context-stays : context_of xs₁ bs₁ ≡ context_of xs bs
  context-stays = beside-context (working-beside l.working) given.wf

  groups_stay : groups_of xs₁ bs₁ ≡ groups_of xs bs
  groups_stay = sym (context-groups xs₁ bs₁) ∙ ap (λ (c : Context). c.groups) context-stays ∙ context-groups xs bs

  -- what the part that finishes asks
  pub parts-given : PartsGiven g xs₁ bs₁ ys cs
  parts-given =
      record {
        wf = beside_wf (working-beside l.working) given.wf;
        newer-wf = given.newer-wf;
        loaded = rw groups_stay l.becomes;
        kind = λ f e. rw context-stays (finishes-in g (context_of ys cs) (context_of xs bs) given.newer-wf.kept m given.newer-kind given.kind f (rw context-stays at e));
      }

  module _ (o : ByCause (Unit {0})) (xs₂ bs₂ : List ℕ) (w : WorkedAs (finish_table (finished_at g (context_of ys cs) (context_of xs₁ bs₁)) (lookup numbers g (groups_of xs₁ bs₁))) xs₁ bs₁ o xs₂ bs₂) where
    abbrev finished : Result (Option Table)
    finished = finish_table (finished_at g (context_of ys cs) (context_of xs bs)) (lookup numbers g (groups_of xs bs))

    abbrev rest : Option Table → Result (Option Table)
    rest t = laid_by m (lookup numbers g (groups_of ys cs)) (tombed g (context_of ys cs).tombstones t)

    group-whole : group_by m (context_of ys cs) (context_of xs bs) g ≡ and_then finished rest
    group-whole = group-is g (context_of ys cs) (context_of xs bs) given.newer-wf.kept m given.newer-kind ∙ rw (context-groups ys cs, context-groups xs bs)

    ended : Ends finished o (drop long_numbers xs₂) (drop long_bytes bs₂)
    ended = rw (context-stays, groups_stay) at w.ends

    moved : Working xs bs xs₂ bs₂
    moved = working-then l.working w.working

    pub numbers_stay : length xs₂ ≡ 17231
    numbers_stay = moved.numbers-length ∙ area-length xs bs (formed_of xs bs given.wf)

    pub bytes_stay : length bs₂ ≡ 38912
    bytes_stay = moved.bytes-length ∙ area-bytes xs bs (formed_of xs bs given.wf)

    refused-is : (n : Cause) → o ≡ Err n → finished ≡ Err (record { cause = n; place = None })
    refused-is n e = sym (rw e at ended.rule)

    -- files go back
    pub part-refused : (n : Cause) → o ≡ Err n → WorkedAs (group_by m (context_of ys cs) (context_of xs bs) g) xs bs (Err n) xs₂ bs₂
    part-refused n e =
        record {
          ends = record { rule = rw group-whole (sym (and_then-refused finished rest _ (refused-is n e))); wf = ended.wf };
          working = moved;
        }

    module _ (e : o ≡ (Ok tt)) where
      done-is : finished ≡ Ok (work_in (drop long_numbers xs₂) (drop long_bytes bs₂))
      done-is = sym (rw e at ended.rule)

      done_here : finish_table (finished_at g (context_of ys cs) (context_of xs₁ bs₁)) (lookup numbers g (groups_of xs₁ bs₁)) ≡ Ok (work_in (drop long_numbers xs₂) (drop long_bytes bs₂))
      done_here = sym (rw e at w.ends.rule)

      pub part_room : Within 320 144 (work_in (drop long_numbers xs₂) (drop long_bytes bs₂))
      part_room = after-room g xs₁ bs₁ ys cs parts-given _ done_here

      pub part_for_lem : OlderFor m (tombed g (context_of ys cs).tombstones (work_in (drop long_numbers xs₂) (drop long_bytes bs₂)))
      part_for_lem =
          older-of m (context_of xs bs) g (context_of ys cs).tombstones _ given.wf.kept given.kind
          (λ h. after-rewrite g xs₁ bs₁ ys cs parts-given _ done_here (rw groups_stay (rw (context-groups xs bs) at h)))

      group_worked : (r : ByCause (Unit {0})) (p b : List ℕ) → Ends (rest (work_in (drop long_numbers xs₂) (drop long_bytes bs₂))) r p b → WorkedAs (group_by m (context_of ys cs) (context_of xs bs) g) xs bs r (put_mid 13509 (length xs₂ - 13509) xs₂ p) (put_mid 28672 (length bs₂ - 28672) bs₂ b)
      group_worked r p b d =
          record {
            ends = rw (long_back xs₂ p numbers_stay d.wf.numbers-are, lent_back xs₂ p numbers_stay d.wf.numbers-are bs₂ b bytes_stay d.wf.bytes-are, group-whole, and_then_of finished rest _ done-is) d;
            working = working-then moved (lent-working xs₂ p numbers_stay d.wf.numbers-are bs₂ b bytes_stay d.wf.bytes-are);
          }

      -- the same, with the work table as it is lent
      pub group_lent : (r : ByCause (Unit {0})) (p b : List ℕ) → Ends (rest (work_in (take (length xs₂ - 13509) (drop 13509 xs₂)) (take (length bs₂ - 28672) (drop 28672 bs₂)))) r p b → WorkedAs (group_by m (context_of ys cs) (context_of xs bs) g) xs bs r (put_mid 13509 (length xs₂ - 13509) xs₂ p) (put_mid 28672 (length bs₂ - 28672) bs₂ b)
      group_lent r p b d = group_worked r p b (rw (part_to_end xs₂ 13509, part_to_end bs₂ 28672) at d)
