use Rattle.std.proofs.Common.{arith}
use Rattle.size_fit.proofs.Bounds.{sections_are_light, lifetimes_are_few}
use Rattle.size_fit.proofs.sizes.weight.Goals as goal

pub sections_weight-requires : goal.sections_weight-requires
sections_weight-requires c = omega (arith, sections_are_light c.args.r.now.bytes c.args.r.now.lifetimes c.sections.result.now c.sections.ensures.sound c.sections.ensures.value)

pub overflow_add-result : goal.overflow_add-result
overflow_add-result c =
    omega (arith, c.sections_weight.ensures, sections_are_light c.args.r.now.bytes c.args.r.now.lifetimes c.sections.result.now c.sections.ensures.sound c.sections.ensures.value)

pub overflow_cast-result : goal.overflow_cast-result
overflow_cast-result c = omega (arith, lifetimes_are_few c.args.r.now.bytes c.args.r.now.lifetimes c.lifetimes-2.result.now c.lifetimes-2.ensures.sound c.lifetimes-2.ensures.value)

pub overflow_mul-result : goal.overflow_mul-result
overflow_mul-result c = omega (arith, lifetimes_are_few c.args.r.now.bytes c.args.r.now.lifetimes c.lifetimes-2.result.now c.lifetimes-2.ensures.sound c.lifetimes-2.ensures.value)

pub overflow_add-result-2 : goal.overflow_add-result-2
overflow_add-result-2 c =
    omega (
      arith,
      c.sections_weight.ensures,
      sections_are_light c.args.r.now.bytes c.args.r.now.lifetimes c.sections.result.now c.sections.ensures.sound c.sections.ensures.value,
      lifetimes_are_few c.args.r.now.bytes c.args.r.now.lifetimes c.lifetimes-2.result.now c.lifetimes-2.ensures.sound c.lifetimes-2.ensures.value,
    )

pub returns-clause-most : goal.returns-clause-most
returns-clause-most c =
    omega (
      arith,
      c.sections_weight.ensures,
      sections_are_light c.args.r.now.bytes c.args.r.now.lifetimes c.sections.result.now c.sections.ensures.sound c.sections.ensures.value,
      lifetimes_are_few c.args.r.now.bytes c.args.r.now.lifetimes c.lifetimes-2.result.now c.lifetimes-2.ensures.sound c.lifetimes-2.ensures.value,
    )
