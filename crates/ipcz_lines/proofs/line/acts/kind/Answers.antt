use Rattle.std.proofs.Common.{codes}
use Rattle.ipcz_lines.proofs.Lacking.{unlike}
use Rattle.ipcz_lines.proofs.Forms.{NoKindWord, kind_alone}
use Rattle.ipcz_lines.proofs.line.acts.kind.Goals as goal

pub returns-else-eq-5 : goal.returns-else-eq-5
returns-else-eq-5 c =
    let other : NoKindWord c.args.bytes.now = record {
      bypass_peer = unlike _ _ (codes "BypassPeer") c.if-eq.ensures c.as_slice.ensures;
      flush = unlike _ _ (codes "Flush") c.if-eq-2.ensures c.as_slice-2.ensures;
      accept_bypass = unlike _ _ (codes "AcceptBypass") c.if-eq-3.ensures c.as_slice-3.ensures;
      stop_proxying = unlike _ _ (codes "StopProxying") c.if-eq-4.ensures c.as_slice-4.ensures;
      proxy_will_stop = unlike _ _ (codes "ProxyWillStop") c.if-eq-5.ensures c.as_slice-5.ensures;
    } in
    λ x h e. kind_alone x c.args.bytes.now c.requires.one_word other e
