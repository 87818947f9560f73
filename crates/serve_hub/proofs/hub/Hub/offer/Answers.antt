use Rattle.std.proofs.Common.{◌∙◌, ap, subst, arith, rules}
use Rattle.frame_view.specs.declared.frame.Frame.{Frame}
use Rattle.filters.specs.Chain.{ChainValue, format_of, last_format}
use Rattle.filters.specs.ChainImage.{value_of}
use Rattle.lease.specs.Job.{JobValue}
use Rattle.serve_hub.specs.Calls.{AcceptsOther, IsOfferTold}
use Rattle.serve_hub.proofs.Noting.{unmatched}
use Rattle.serve_hub.proofs.Refusing.{matched}
use Rattle.serve_hub.proofs.hub.Hub.offer.Goals as goal

pub returns-in-Err-default-Some : goal.returns-in-Err-default-Some
returns-in-Err-default-Some g c =
    let e = c.in-Err-default-Some in
    let back = matched _ _ e.field-0-1 e.job e.field-0-1-is e.ensures.refused in record {
      back = record {
        at = search rules;
        frame = c.undo-frame.ensures.source ∙ ap (λ (j : JobValue). j.source) back.0 ∙ c.in-Ok.ensures.source;
        memory = record {
          there = search rules;
          of_chain = c.undo-frame.ensures.format
              ∙ ap (λ (x : ChainValue). last_format x.ops (format_of x.geometry))
              (ap (λ (j : JobValue). j.chain) back.0 ∙ c.in-Ok.ensures.fresh.of_chain);
        };
        told = subst (λ (f : Frame). IsOfferTold c.args.seat.now c.args.offer.at f.geometry e.refusal)
            c.in-Ok.ensures.keeps_frame back.2;
        seat = back.1;
      };
      late = λ late. absurd (omega arith);
    }

pub returns-in-Err-default-None : goal.returns-in-Err-default-None
returns-in-Err-default-None g c =
    let e = c.in-Err-default-None in record {
      back = (
        subst (λ (f : Frame). AcceptsOther (value_of f) e.refusal c.args.seat.now c.enter.new.seat) c.in-Ok.ensures.keeps_frame
            (unmatched _ _ e.field-0-1 e.field-0-1-is e.ensures.refused),
        rw e.field-0-1-is at e.ensures.other_moment,
      );
      late = λ late. absurd (omega arith);
    }
