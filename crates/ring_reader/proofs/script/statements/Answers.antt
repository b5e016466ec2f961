use Rattle.std.proofs.Common.{◌≡◌, ◌∙◌, ◌&&◌, nat_le, true, refl, sym, length, arith}
use Rattle.std.proofs.lemmas.Bool.{and_parts, leb-true}
use Rattle.std.proofs.lemmas.List.Elements.{All-nil}
use Rattle.script_tokens.specs.PlaceView.{place_of}
use Rattle.script_grammar.specs.Words.{is_the_end}
use Rattle.ring_reader.specs.RingView.{ring_of}
use Rattle.expression_reader.proofs.Handed.{gives_failed}
use Rattle.ring_reader.proofs.Scripts.{script_begins, script_goes_by, script_fails_by, script_ends, sound_polys, low_polys, sound_ideals, few_ideals, sound_commands, asked_count}
use Rattle.ring_reader.proofs.script.statements.Goals as goal

pub loop-here-init : goal.loop-here-init
loop-here-init c = record {
  so_far = rw (c.new-scope.ensures.polys, c.new-scope.ensures.ideals, c.new-scope.ensures.commands) (script_begins (ring_of c.args.ring.now) c.args.d (place_of c.args.start));
  polys = rw c.new-scope.ensures.polys (All-nil _);
  polys_low = rw c.new-scope.ensures.polys (All-nil _);
  ideals = rw c.new-scope.ensures.ideals (All-nil _);
  ideals_few = rw c.new-scope.ensures.ideals (All-nil _);
  belong = rw c.new-scope.ensures.commands (All-nil _);
  few = rw c.new-scope.ensures.commands (omega arith);
}

pub returns-in_err-effect-clause-gives : goal.returns-in_err-effect-clause-gives
returns-in_err-effect-clause-gives c =
    gives_failed _ _ _ _ c.from_residual.ensures.1
    (script_fails_by (ring_of c.args.ring.now) c.args.d _ c.loop-here.scope.polys.items _ c.loop-here.scope.ideals.items _ c.loop-here.scope.commands.items (place_of c.loop-here.here) _ c.args.ring.now.field c.args.ring.now.letters c.len-in-loop-here.result c.len.result
    refl refl c.deref.ensures.value c.deref-in-loop-here.ensures.value (omega (arith, c.len-in-loop-here.ensures)) (omega (arith, c.len.ensures))
    (sym c.is_over.ensures ∙ c.loop-here-test.true) c.in_err-effect.ensures.gives c.loop-here.invariant.so_far)

pub loop-here-preserved : goal.loop-here-preserved
loop-here-preserved c =
    let sound = c.in_ok-effect.ensures.sound in
    record {
      so_far = rw (c.in_ok-apply.ensures.polys, c.in_ok-apply.ensures.ideals, c.in_ok-apply.ensures.commands)
          (script_goes_by (ring_of c.args.ring.now) c.args.d _ c.loop-here.scope.polys.items _ c.loop-here.scope.ideals.items _ c.loop-here.scope.commands.items (place_of c.loop-here.here) (place_of c.in_ok-effect.after) c.in_ok-effect.effect c.args.ring.now.field c.args.ring.now.letters c.len-in-loop-here.result c.len.result
          refl refl c.deref.ensures.value c.deref-in-loop-here.ensures.value (omega (arith, c.len-in-loop-here.ensures)) (omega (arith, c.len.ensures))
          (sym c.is_over.ensures ∙ c.loop-here-test.true) c.in_ok-effect.ensures.shorter c.in_ok-effect.ensures.gives c.loop-here.invariant.so_far);
      polys = rw c.in_ok-apply.ensures.polys (sound_polys c.args.ring.now.field (length c.args.ring.now.letters) c.args.d c.loop-here.scope.polys.items c.in_ok-effect.effect c.loop-here.invariant.polys sound);
      polys_low = rw c.in_ok-apply.ensures.polys (low_polys c.args.ring.now.field (length c.args.ring.now.letters) c.args.d c.loop-here.scope.polys.items c.in_ok-effect.effect c.loop-here.invariant.polys_low sound);
      ideals = rw c.in_ok-apply.ensures.ideals (sound_ideals c.args.ring.now.field (length c.args.ring.now.letters) c.args.d c.loop-here.scope.ideals.items c.in_ok-effect.effect c.loop-here.invariant.ideals sound);
      ideals_few = rw c.in_ok-apply.ensures.ideals (few_ideals c.args.ring.now.field (length c.args.ring.now.letters) c.args.d c.loop-here.scope.ideals.items c.in_ok-effect.effect c.loop-here.invariant.ideals_few sound);
      belong = rw c.in_ok-apply.ensures.commands (sound_commands c.args.ring.now.field (length c.args.ring.now.letters) c.args.d c.loop-here.scope.commands.items c.in_ok-effect.effect c.loop-here.invariant.belong sound);
      few = rw c.in_ok-apply.ensures.commands (omega (arith, asked_count c.loop-here.scope.commands.items c.in_ok-effect.effect, c.len.ensures, c.in_ok-effect.ensures.few));
    }

pub returns : goal.returns
returns c =
    let count : length c.loop-here.scope.commands.items ≡ c.len.result = omega (arith, c.len.ensures) in
    let over : (nat_le 1 (length c.loop-here.scope.commands.items) && is_the_end (place_of c.loop-here.here).token) ≡ true = rw count (sym c.is_over.ensures ∙ c.loop-here-test.false) in
    record {
      gives = script_ends (ring_of c.args.ring.now) c.args.d _ c.loop-here.scope.polys.items c.loop-here.scope.ideals.items c.loop-here.scope.commands.items (place_of c.loop-here.here) over c.loop-here.invariant.so_far;
      asked = leb-true 1 (length c.loop-here.scope.commands.items) (and_parts (nat_le 1 (length c.loop-here.scope.commands.items)) (is_the_end (place_of c.loop-here.here).token) over).0;
      few = c.loop-here.invariant.few;
      belong = c.loop-here.invariant.belong;
    }
