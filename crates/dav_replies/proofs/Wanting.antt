-- The reply for want of memory: what the definitions say of its bytes.
use Rattle.std.proofs.Common.{◌≡◌, true, false, refl}
use Rattle.std.specs.Prelude.{codes}
use Rattle.std.specs.Fmt.{digits}
use Rattle.dav_replies.specs.declared.client.Client.TheVariants.{Plain, Guest}
use Rattle.dav_replies.specs.declared.refusal.Refusal.TheVariants.{NoMemory}
use Rattle.dsv_base.specs.Escapes.{xml_text}
use Rattle.dav_documents.specs.Namespaces.{uri_of}
use Rattle.dav_documents.specs.Written.{body_text, page_text}
use Rattle.dav_replies.specs.Replies.{reply_text}
use Rattle.dav_replies.specs.Refusals.{error_text, refusal_reply, refusal_bytes}

pub head : refusal_bytes Plain NoMemory true false ≡ codes "HTTP/1.1 503 Service Unavailable\r\nContent-Type: text/xml; charset=\"utf-8\"\r\nContent-Length: 170\r\n\r\n"
unfolding error_text refusal_reply refusal_bytes reply_text digits body_text page_text xml_text uri_of
head = refl

pub last_head : refusal_bytes Plain NoMemory true true ≡ codes "HTTP/1.1 503 Service Unavailable\r\nContent-Type: text/xml; charset=\"utf-8\"\r\nContent-Length: 170\r\nConnection: close\r\n\r\n"
unfolding error_text refusal_reply refusal_bytes reply_text digits body_text page_text xml_text uri_of
last_head = refl

pub whole : refusal_bytes Plain NoMemory false false ≡ codes "HTTP/1.1 503 Service Unavailable\r\nContent-Type: text/xml; charset=\"utf-8\"\r\nContent-Length: 170\r\n\r\n<?xml version=\"1.0\" encoding=\"utf-8\"?>\n<D:error xmlns:D=\"DAV:\" xmlns:m=\"http://apache.org/dav/xmlns\"><m:human-readable errcode=\"24\">NoMemory</m:human-readable></D:error>\n"
unfolding error_text refusal_reply refusal_bytes reply_text digits body_text page_text xml_text uri_of
whole = refl

pub last_whole : refusal_bytes Plain NoMemory false true ≡ codes "HTTP/1.1 503 Service Unavailable\r\nContent-Type: text/xml; charset=\"utf-8\"\r\nContent-Length: 170\r\nConnection: close\r\n\r\n<?xml version=\"1.0\" encoding=\"utf-8\"?>\n<D:error xmlns:D=\"DAV:\" xmlns:m=\"http://apache.org/dav/xmlns\"><m:human-readable errcode=\"24\">NoMemory</m:human-readable></D:error>\n"
unfolding error_text refusal_reply refusal_bytes reply_text digits body_text page_text xml_text uri_of
last_whole = refl

pub guest_head : refusal_bytes Guest NoMemory true false ≡ codes "HTTP/1.1 503 Service Unavailable\r\nContent-Type: text/xml; charset=\"utf-8\"\r\nContent-Length: 174\r\n\r\n"
unfolding error_text refusal_reply refusal_bytes reply_text digits body_text page_text xml_text uri_of
guest_head = refl

pub guest_last_head : refusal_bytes Guest NoMemory true true ≡ codes "HTTP/1.1 503 Service Unavailable\r\nContent-Type: text/xml; charset=\"utf-8\"\r\nContent-Length: 174\r\nConnection: close\r\n\r\n"
unfolding error_text refusal_reply refusal_bytes reply_text digits body_text page_text xml_text uri_of
guest_last_head = refl

pub guest_whole : refusal_bytes Guest NoMemory false false ≡ codes "HTTP/1.1 503 Service Unavailable\r\nContent-Type: text/xml; charset=\"utf-8\"\r\nContent-Length: 174\r\n\r\n<?xml version=\"1.0\" encoding=\"utf-8\"?>\n<D:error xmlns:D=\"DAV:\" xmlns:m=\"http://apache.org/dav/xmlns\"><m:human-readable errcode=\"175002\">NoMemory</m:human-readable></D:error>\n"
unfolding error_text refusal_reply refusal_bytes reply_text digits body_text page_text xml_text uri_of
guest_whole = refl

pub guest_last_whole : refusal_bytes Guest NoMemory false true ≡ codes "HTTP/1.1 503 Service Unavailable\r\nContent-Type: text/xml; charset=\"utf-8\"\r\nContent-Length: 174\r\nConnection: close\r\n\r\n<?xml version=\"1.0\" encoding=\"utf-8\"?>\n<D:error xmlns:D=\"DAV:\" xmlns:m=\"http://apache.org/dav/xmlns\"><m:human-readable errcode=\"175002\">NoMemory</m:human-readable></D:error>\n"
unfolding error_text refusal_reply refusal_bytes reply_text digits body_text page_text xml_text uri_of
guest_last_whole = refl
