use Rattle.btf_loader.specs.Places.{start_of, end_of}
use Rattle.btf_loader.proofs.Sharing.{extends, stays}
use Rattle.btf_loader.proofs.places.Places.add.Goals as goal

pub returns-in_ok-push-2 : goal.returns-in_ok-push-2
returns-in_ok-push-2 c =
    let p = c.in-Some.ensures.some in (
      extends start_of c.args.object.now.sections c.args.index c.in-Some.start c.in-Some.end p c.in-Some.start c.args.self.now.starts.items c.push.new.self.items c.in_ok-push.ensures.items p.start_is,
      extends end_of c.args.object.now.sections c.args.index c.in-Some.start c.in-Some.end p c.in-Some.end c.args.self.now.ends.items c.push-in-Some.new.self.items c.in_ok-push-2.ensures.items p.end_is,
    )

pub returns-in_default : goal.returns-in_default
returns-in_default c = (
  stays start_of c.args.object.now.sections c.args.index c.args.self.now.starts.items c.in_default.ensures.none,
  stays end_of c.args.object.now.sections c.args.index c.args.self.now.ends.items c.in_default.ensures.none,
)
