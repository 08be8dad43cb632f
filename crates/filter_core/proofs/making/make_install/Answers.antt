use Rattle.std.proofs.Common.{◌≡◌, ℕ, ◌-◌, refl, subst}
use Rattle.size_fit.specs.Sizes.{base, limit_of}
use Rattle.size_fit.specs.Choosing.{IsLongestThatFits}
use Rattle.filter_core.specs.Installs.{install_of, fitting}
use Rattle.filter_core.proofs.Fitting.{fits_longest}
use Rattle.filter_core.proofs.making.make_install.Goals as goal

pub returns-clause-install : goal.returns-clause-install
unfolding install_of
returns-clause-install c =
    let longest = subst (λ (limit : ℕ). IsLongestThatFits (base c.args.config c.args.state) limit c.args.records.now c.in-Ok.fit.kept) c.limit-limit.ensures.value c.in-Ok.ensures.kept in
    let kept : c.in-Ok.fit.kept ≡ fitting (limit_of c.args.config - base c.args.config c.args.state) c.args.records.now = fits_longest _ _ _ _ c.requires.fits longest in
    rw (c.in_ok-chosen.ensures, c.in_ok-left.ensures, c.split_at.ensures.front, c.split_at.ensures.back, kept) refl
